-- Whole numbers that are i64s: of choices, of a value more, and in a store of rows of three. Assumes nothing.
use Prim.Native.Nat.{ℕ, zero, suc}
use mathlib.Core.Path.{◌≡◌, refl}
use mathlib.Core.Bool.{Bool, true, false}
use mathlib.Core.List.{List, [], ◌∷◌}
use lib.IntN.{ℤ}
use lib.ListN.{get_or, set}
use lib.Signed.{lt_z}
use Rattle.laws.specs.Pick.{pick}
use Rattle.integers.specs.Answers.{in_range, lesser_of, greater_of}
use Rattle.points.specs.Whole.{whole}
use Rattle.whole_listing.specs.Read.{AllHeld}

pick_ranged : (b : Bool) (x y : ℤ) → in_range x ≡ true → in_range y ≡ true → in_range (pick b x y) ≡ true
unfolding pick
pick_ranged true x y p q = p
pick_ranged false x y p q = q

-- the sum with a value more, which is taken: it stays in i64, or none is kept
sum_ranged : (b : Bool) (s v : ℤ) → in_range s ≡ true → whole.takes b s v ≡ true → in_range (whole.noted b s v) ≡ true
unfolding pick
sum_ranged true s v h t = t
sum_ranged false s v h t = h

-- ---- a series' minimum, maximum and sum

pub record Fitting (a b s : ℤ) : Type 0 where
  pub min : in_range a ≡ true
  pub max : in_range b ≡ true
  pub sum : in_range s ≡ true

-- without values
pub start_fits : Fitting whole.greatest whole.least whole.zero
start_fits = record { min = refl; max = refl; sum = refl }

-- with a value more
pub more-fits : (sums : Bool) (a b s v : ℤ) → in_range v ≡ true → whole.takes sums s v ≡ true → Fitting a b s
    → Fitting (lesser_of a v) (greater_of b v) (whole.noted sums s v)
more-fits sums a b s v t h k =
    record {
      min = pick_ranged (lt_z v a) v a t k.min;
      max = pick_ranged (lt_z b v) v b t k.max;
      sum = sum_ranged sums s v k.sum h;
    }

-- a row of three, and a store with it at one place
row_fits : (a b s : ℤ) → Fitting a b s → (i : ℕ) → in_range (get_or (a ∷ b ∷ s ∷ []) i whole.zero) ≡ true
row_fits a b s k zero = k.min
row_fits a b s k (suc zero) = k.max
row_fits a b s k (suc (suc zero)) = k.sum
row_fits a b s k (suc (suc (suc i))) = refl

set-fits : (rows : List (List ℤ)) (x : ℕ) (row : List ℤ) → AllHeld rows → ((i : ℕ) → in_range (get_or row i whole.zero) ≡ true) → AllHeld (set rows x row)
set-fits [] x row l g y i = l y i
set-fits (a ∷ rows) zero row l g zero i = g i
set-fits (a ∷ rows) zero row l g (suc y) i = l (suc y) i
set-fits (a ∷ rows) (suc x) row l g zero i = l zero i
set-fits (a ∷ rows) (suc x) row l g (suc y) i = set-fits rows x row (λ k. l (suc k)) g y i

pub put-fits : (rows : List (List ℤ)) (x : ℕ) (a b s : ℤ) → AllHeld rows → Fitting a b s → AllHeld (set rows x (a ∷ b ∷ s ∷ []))
put-fits rows x a b s l k = set-fits rows x (a ∷ b ∷ s ∷ []) l (row_fits a b s k)
