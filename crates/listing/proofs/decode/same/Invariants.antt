-- `listing::decode::same` meets its contract. Assumes nothing.
use Prim.Native.Nat.{ℕ, ◌≤◌}
use mathlib.Core.Path.{◌≡◌}
use mathlib.Core.Bool.{Bool, true}
use mathlib.Core.List.{List}
use lib.Dec.{eqb}
use lib.ListN.{get_or}
use Rattle.sets.specs.All.{allb}
use Rattle.listing.proofs.decode.same.Given as goal

abbrev alike : List ℕ → List ℕ → ℕ → Bool
alike a b i = eqb (get_or a i 0) (get_or b i 0)

abbrev pub invariant-loop-i : goal.invariant-loop-i
invariant-loop-i l = (l.i ≤ 12) × (allb l.i (alike l.a l.b) ≡ true)
