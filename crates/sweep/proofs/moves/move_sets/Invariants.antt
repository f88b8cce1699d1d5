-- `sweep::moves::move_sets` meets its contract. Assumes nothing.
use mathlib.Core.Path.{◌≡◌}
use Prim.Native.Nat.{◌≤◌}
use lib.ListN.{length}
use Rattle.sweep.specs.Passes.{mark_in, settled}
use Rattle.sweep.proofs.moves.move_sets.Given as goal

abbrev pub invariant-loop-x : goal.invariant-loop-x
invariant-loop-x l =
    (l.x ≤ l.used) × (length l.sets ≡ length l.initial.sets) × (l.sets ≡ settled (λ row. row) (mark_in l.order) l.x l.initial.sets)
