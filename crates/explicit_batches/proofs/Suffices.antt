-- The number of slots that a seating is told says whether the explicit kind's cells suffice. Assumes nothing.
use Prim.Native.Nat.{ℕ, ◌+◌, ◌≤◌}
use mathlib.Core.Path.{◌≡◌, sym, ◌∙◌}
use mathlib.Core.Bool.{Bool, true}
use mathlib.Core.List.{List, [], ◌∷◌}
use native.Mathlib.Omega.{arith}
use lib.Dec.{leb}
use Rattle.laws.specs.Pick.{pick}
use Rattle.value_map.specs.Store.{lengths_suffice}
use Rattle.value_map.proofs.Products.{entry_in}
use Rattle.batches.proofs.Rooms.{room_for}

-- of stores with k counts a slot, with so many counts, totals and extremes: b is what `cells_suffice` answers, n what `slots_if` does
pub slots_suffice : (k limit counts totals extremes : ℕ) (b : Bool) (n : ℕ) → totals ≤ 18446744073709551615
    → b ≡ lengths_suffice k limit (counts ∷ []) (totals ∷ extremes ∷ []) → n ≡ pick b 18446744073709551615 0
    → leb (limit + 2) n ≡ lengths_suffice k limit (counts ∷ []) (totals ∷ extremes ∷ [])
slots_suffice k limit counts totals extremes b n h e p = room_for limit b n p (λ t. enough t) ∙ e
  where
    enough : b ≡ true → limit + 2 ≤ 18446744073709551615
    enough t =
        let ns : List ℕ = counts ∷ [] in
        let others : List ℕ = totals ∷ extremes ∷ [] in
        let i = entry_in k limit (limit + 1) ns others (sym e ∙ t) (omega arith) 0 (omega arith) in
        omega (arith, h, i)
