use mathlib.Core.Path.{◌≡◌}
use Prim.Native.Nat.{◌+◌, ◌*◌}
use Rattle.rows.specs.Groups.{gathered}
use Rattle.rows.proofs.walk.wide_groups.Given as goal

abbrev pub invariant-loop-k : goal.invariant-loop-k
invariant-loop-k l = (l.j ≡ l.i + l.k * l.width) × (l.counts ≡ gathered l.width 1 l.i l.k l.initial.counts)
