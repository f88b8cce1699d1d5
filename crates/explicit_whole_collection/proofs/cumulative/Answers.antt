-- `explicit_whole_collection::cumulative` meets its contract. Assumes nothing.
use mathlib.Core.Path.{sym}
use Rattle.laws.proofs.Cases.{true-not-false}
use Rattle.explicit_whole_collection.proofs.cumulative.Goals as goal

-- nothing is known
pub cumulative-requires : goal.cumulative-requires
cumulative-requires c known = true-not-false (sym known)
