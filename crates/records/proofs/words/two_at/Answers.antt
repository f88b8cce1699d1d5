-- `records::words::two_at` meets its contract. Assumes nothing.
use Rattle.records.specs.Words.{two_at}
use borrow.Author.Rules.{rules}
use Rattle.records.proofs.words.two_at.Goals as goal

pub returns : goal.returns
unfolding two_at
returns c = search rules
