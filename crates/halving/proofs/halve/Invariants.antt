use mathlib.Core.Path.{◌≡◌}
use Prim.Native.Nat.{◌+◌, ◌-◌, ◌*◌, ◌%◌, ◌≤◌}
use lib.ListN.{length}
use Rattle.rows.specs.Groups.{gathered}
use Rattle.halving.proofs.halve.Given as goal

abbrev pub invariant-loop-i : goal.invariant-loop-i
invariant-loop-i l =
    (l.start % 2 ≤ l.len) × (l.i ≡ l.start % 2 + (l.len - l.start % 2) * 2) × (l.i ≤ l.n) × (length l.counts ≡ length l.initial.counts)
    × (l.counts ≡ gathered 2 (l.start % 2) (l.start % 2) (l.len - l.start % 2) l.initial.counts)

abbrev pub decreases-loop-i : goal.decreases-loop-i
decreases-loop-i l = l.n - l.i
