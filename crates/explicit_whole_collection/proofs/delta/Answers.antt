-- `explicit_whole_collection::delta` meets its contract. Assumes nothing.
use mathlib.Core.Path.{sym}
use Rattle.laws.proofs.Cases.{true-not-false}
use Rattle.explicit_whole_collection.proofs.delta.Goals as goal

-- nothing is known
pub delta-requires : goal.delta-requires
delta-requires c known = true-not-false (sym known)
