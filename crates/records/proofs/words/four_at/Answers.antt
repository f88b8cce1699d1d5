-- `records::words::four_at` meets its contract. Assumes nothing.
use Rattle.records.specs.Words.{four_at}
use borrow.Author.Rules.{rules}
use Rattle.records.proofs.words.four_at.Goals as goal

pub returns : goal.returns
unfolding four_at
returns c = search rules
