-- `records::chain::width_of` meets its contract. Assumes nothing.
use borrow.Author.Rules.{rules}
use Rattle.records.specs.Records.{width}
use Rattle.records.proofs.chain.width_of.Goals as goal

pub returns : goal.returns
unfolding width
returns c = search rules
