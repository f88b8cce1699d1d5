-- `replay::main` is safe and ends. Assumes nothing.
use Rattle.replay.proofs.main.Goals as goal

pub first-ports-requires : goal.first-ports-requires
first-ports-requires c = tt

pub loop-turns-init : goal.loop-turns-init
loop-turns-init c = tt

pub is_over-requires : goal.is_over-requires
is_over-requires c = tt

pub script-ports-requires : goal.script-ports-requires
script-ports-requires c = tt

pub loop-turns-preserved : goal.loop-turns-preserved
loop-turns-preserved c = tt

pub write-requires : goal.write-requires
write-requires c = tt

pub returns : goal.returns
returns c = tt
