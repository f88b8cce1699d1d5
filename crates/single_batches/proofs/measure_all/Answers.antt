-- `single_batches::measure_all` meets its contract: it knows nothing. Assumes nothing.
use mathlib.Core.Path.{sym}
use Rattle.laws.proofs.Cases.{true-not-false}
use Rattle.single_batches.proofs.measure_all.Goals as goal

pub all-requires : goal.all-requires
all-requires c k = true-not-false (sym k)
