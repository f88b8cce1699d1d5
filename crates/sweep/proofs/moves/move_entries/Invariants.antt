-- `sweep::moves::move_entries` meets its contract. Assumes nothing.
use mathlib.Core.Path.{◌≡◌}
use Prim.Native.Nat.{◌≤◌}
use lib.ListN.{length}
use Rattle.sweep.specs.Swept.{clear}
use Rattle.sweep.specs.Passes.{mark_in, settled}
use Rattle.sweep.proofs.moves.move_entries.Given as goal

abbrev pub invariant-loop-x : goal.invariant-loop-x
invariant-loop-x l =
    (l.x ≤ l.used) × (length l.entries ≡ length l.initial.entries) × (l.entries ≡ settled clear (mark_in l.order) l.x l.initial.entries)
