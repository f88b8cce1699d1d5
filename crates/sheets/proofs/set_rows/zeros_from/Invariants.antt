-- `sheets::set_rows::zeros_from` meets its contract. Assumes nothing.
use Prim.Native.Nat.{◌-◌, ◌≤◌}
use mathlib.Core.Path.{◌≡◌}
use mathlib.Core.Bool.{true}
use Rattle.sets.specs.All.{allb}
use Rattle.sheets.proofs.SetLaws.{zero_from}
use Rattle.sheets.proofs.set_rows.zeros_from.Given as goal

abbrev pub invariant-loop-i : goal.invariant-loop-i
invariant-loop-i l = (l.n ≤ l.i) × (l.i ≤ 8) × (allb (l.i - l.n) (zero_from l.row l.n) ≡ true)
