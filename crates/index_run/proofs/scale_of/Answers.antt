-- `index_run::scale_of` is safe and ends. Assumes nothing.
use Prim.Native.Nat.{◌%◌}
use native.Mathlib.Omega.{arith}
use lib.Dec.{lit<}
use Rattle.index.proofs.Casts.{difference-fits}
use Rattle.index_run.proofs.scale_of.Goals as goal

pub overflow_sub-result : goal.overflow_sub-result
overflow_sub-result c = difference-fits 0 (c.args.size % 1000) (lit< tt) (omega arith)
