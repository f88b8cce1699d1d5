-- `sets::set_row::rises` meets its contract. Assumes nothing.
use Prim.Native.Nat.{◌-◌, ◌≤◌}
use mathlib.Core.Path.{◌≡◌}
use mathlib.Core.Bool.{true}
use Rattle.sets.specs.All.{allb}
use Rattle.sets.specs.Rows.{key_at}
use Rattle.sets.proofs.set_row.rises.Given as goal

abbrev pub invariant-loop-i : goal.invariant-loop-i
invariant-loop-i l = (l.i ≤ l.n - 1) × (1 ≤ l.n) × (l.n ≤ 8) × (allb l.i (key_at l.row) ≡ true)
