-- `records::words::word_at` meets its contract. Assumes nothing.
use Rattle.records.specs.Words.{word_at}
use borrow.Author.Rules.{rules}
use Rattle.records.proofs.words.word_at.Goals as goal

pub returns : goal.returns
unfolding word_at
returns c = search rules
