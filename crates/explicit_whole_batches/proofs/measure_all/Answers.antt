-- `explicit_whole_batches::measure_all` meets its contract. Assumes nothing.
use mathlib.Core.Path.{sym}
use Rattle.laws.proofs.Cases.{true-not-false}
use Rattle.explicit_whole_batches.proofs.measure_all.Goals as goal

-- nothing is known
pub all-requires : goal.all-requires
all-requires c k = true-not-false (sym k)
