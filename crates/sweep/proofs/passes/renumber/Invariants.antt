-- `sweep::passes::renumber` meets its contract. Assumes nothing.
use mathlib.Core.Path.{◌≡◌}
use Prim.Native.Nat.{◌≤◌}
use lib.ListN.{length}
use Rattle.laws.specs.Over.{over}
use Rattle.sets.specs.Rows.{span}
use Rattle.sweep.specs.Passes.{mark_in, packed, lows, renumbered}
use Rattle.sweep.proofs.passes.renumber.Given as goal

abbrev pub invariant-loop-i : goal.invariant-loop-i
invariant-loop-i l =
    (l.i ≤ l.used) × (l.w ≡ length (renumbered (mark_in l.initial.order) (span (lows l.used l.initial.order) 0 l.i))) × (length l.order ≡ length l.initial.order) × (l.order ≡ packed (mark_in l.initial.order) l.used (over (renumbered (mark_in l.initial.order) (span (lows l.used l.initial.order) 0 l.i)) (lows l.used l.initial.order)))
