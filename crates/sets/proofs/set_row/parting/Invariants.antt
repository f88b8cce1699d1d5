-- `sets::set_row::parting` meets its contract. Assumes nothing.
use Prim.Native.Nat.{ℕ, ◌≤◌, ◌<◌}
use mathlib.Core.Path.{◌≡◌}
use lib.ListN.{get_or}
use Rattle.sets.proofs.set_row.parting.Given as goal

abbrev pub invariant-loop-i : goal.invariant-loop-i
invariant-loop-i l = (l.from ≤ l.i) × (l.i ≤ 8) × ((j : ℕ) → l.from ≤ j → j < l.i → get_or l.a j 0 ≡ get_or l.b j 0)
