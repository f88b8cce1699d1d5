use mathlib.Core.Path.{◌≡◌}
use Prim.Native.Nat.{◌+◌, ◌-◌, ◌%◌, ◌≤◌}
use Rattle.laws.specs.Counting.{total}
use Rattle.rows.specs.Parts.{part}
use Rattle.rows.proofs.walk.group_total.Given as goal

abbrev pub invariant-loop-j : goal.invariant-loop-j
invariant-loop-j l = (l.j ≤ l.width) × (l.j % 4 ≡ 0) × (l.sum ≡ total (part l.counts l.i (l.i + l.j)))

abbrev pub decreases-loop-j : goal.decreases-loop-j
decreases-loop-j l = l.width - l.j
