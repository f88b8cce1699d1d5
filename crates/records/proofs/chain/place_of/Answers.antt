-- `records::chain::place_of` meets its contract. Assumes nothing.
use Rattle.records.specs.Inner.{place_of}
use borrow.Author.Rules.{rules}
use Rattle.records.proofs.chain.place_of.Goals as goal

pub returns : goal.returns
unfolding place_of
returns c = search rules
