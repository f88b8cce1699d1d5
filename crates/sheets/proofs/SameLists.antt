-- What the test for the same list says. Assumes nothing.
use Prim.Native.Nat.{ℕ}
use mathlib.Core.Path.{◌≡◌, refl, sym, ap₂}
use mathlib.Core.Bool.{Bool, true, false}
use mathlib.Core.List.{List, [], ◌∷◌}
use borrow.Author.Tests.{eqb-true, eq-eqb}
use lib.Dec.{eqb}
use Rattle.laws.proofs.Bools.{and_left, and_right, and_intro}
use Rattle.laws.proofs.Cases.{true-not-false}
use Rattle.sheets.specs.Sheet.{same_list}

pub same-says : (a b : List ℕ) → same_list a b ≡ true → a ≡ b
unfolding same_list
same-says [] [] h = refl
same-says [] (y ∷ b) h = true-not-false (sym h)
same-says (x ∷ a) [] h = true-not-false (sym h)
same-says (x ∷ a) (y ∷ b) h =
    ap₂ ◌∷◌ (eqb-true x y (and_left (eqb x y) (same_list a b) h)) (same-says a b (and_right (eqb x y) (same_list a b) h))

pub same_refl : (l : List ℕ) → same_list l l ≡ true
unfolding same_list
same_refl [] = refl
same_refl (x ∷ l) = and_intro (eqb x x) (same_list l l) (eq-eqb x x refl) (same_refl l)

pub same-list : (a b : List ℕ) → a ≡ b → same_list a b ≡ true
same-list a b e = rw e (same_refl b)

-- a test that can't hold
pub no_test : (a : Bool) → (a ≡ true → ⊥) → a ≡ false
no_test true f = absurd (f refl)
no_test false f = refl

-- two tests that hold in the same cases
pub same_test : (a b : Bool) → (a ≡ true → b ≡ true) → (b ≡ true → a ≡ true) → a ≡ b
same_test true b f g = sym (f refl)
same_test false true f g = g refl
same_test false false f g = refl
