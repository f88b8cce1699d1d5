-- `sweep::passes::rank` meets its contract. Assumes nothing.
use mathlib.Core.Path.{◌≡◌}
use Prim.Native.Nat.{◌≤◌}
use lib.ListN.{length}
use Rattle.sweep.specs.Swept.{staying, rank}
use Rattle.sweep.specs.Passes.{mark_of, packed}
use Rattle.sweep.proofs.passes.rank.Given as goal

abbrev pub invariant-loop-x : goal.invariant-loop-x
invariant-loop-x l =
    (l.x ≤ l.used) × (l.r ≡ rank (staying l.sets l.entries) l.x) × (length l.order ≡ length l.initial.order) × (l.order ≡ packed (mark_of (staying l.sets l.entries)) l.x l.initial.order)
