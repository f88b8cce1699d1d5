use mathlib.Core.Path.{◌≡◌}
use Prim.Native.Nat.{◌+◌, ◌*◌}
use Rattle.rows.specs.Groups.{gathered}
use Rattle.rows.proofs.walk.pairs.Given as goal

abbrev pub invariant-loop-left : goal.invariant-loop-left
invariant-loop-left l = (l.k + l.left ≡ l.m) × (l.j ≡ l.i + l.k * 2) × (l.counts ≡ gathered 2 1 l.i l.k l.initial.counts)

abbrev pub decreases-loop-left : goal.decreases-loop-left
decreases-loop-left l = l.left
