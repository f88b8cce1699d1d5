-- `single_batches::measure_all_by` meets its contract: it knows nothing. Assumes nothing.
use mathlib.Core.Path.{sym}
use Rattle.laws.proofs.Cases.{true-not-false}
use Rattle.single_batches.proofs.measure_all_by.Goals as goal

pub all_by-requires : goal.all_by-requires
all_by-requires c k = true-not-false (sym k)
