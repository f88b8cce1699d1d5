-- `records::chain::cell` meets its contract. Assumes nothing.
use Rattle.records.specs.Inner.{cell_at}
use Rattle.records.proofs.chain.cell.Goals as goal

pub returns : goal.returns
unfolding cell_at
returns c = cc
