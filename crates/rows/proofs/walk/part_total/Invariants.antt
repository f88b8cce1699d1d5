use mathlib.Core.Path.{◌≡◌}
use Prim.Native.Nat.{◌+◌}
use Rattle.laws.specs.Counting.{total}
use Rattle.rows.specs.Parts.{part}
use Rattle.rows.proofs.walk.part_total.Given as goal

abbrev pub invariant-loop-x : goal.invariant-loop-x
invariant-loop-x l = l.sum ≡ total (part l.counts l.i (l.i + l.x-index))
