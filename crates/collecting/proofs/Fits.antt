-- Floats that are f64s: of literals, of choices, and in a store of rows of three. Assumes nothing.
use Prim.Native.Nat.{ℕ, zero, suc}
use mathlib.Core.Path.{◌≡◌}
use mathlib.Core.Bool.{Bool, true, false}
use mathlib.Core.List.{List, [], ◌∷◌}
use lib.ListN.{get_or, set}
use lib.Ieee.{Float, nan, binary64, of_bits, fits, lt, add}
use lib.Ieee.Scale.{finite}
use lib.Ieee.Fits.{nan-fits, add-fits}
use lib.Ieee.Bits.{is_true, of_bits-fits}
use Rattle.laws.specs.Pick.{pick}
use Rattle.laws.proofs.Cases.{and-true}
use Rattle.floats.specs.Starts.{greatest_finite, least_finite, zero_float}
use Rattle.floats.specs.Answers.{lesser_of, greater_of}
use Rattle.kinds.specs.Histograms.{histograms}
use Rattle.collecting.specs.Read.{AllFit}

pub literal-fits : (b : ℕ) → fits binary64 (of_bits binary64 b) ≡ true
literal-fits b = is_true (fits binary64 (of_bits binary64 b)) (of_bits-fits binary64 b)

pub value-fits : (v : Float) → histograms.finite v ≡ true → fits binary64 v ≡ true
value-fits v t = (and-true (finite v) (fits binary64 v) t).1

pick-fits : (b : Bool) (x y : Float) → fits binary64 x ≡ true → fits binary64 y ≡ true → fits binary64 (pick b x y) ≡ true
unfolding pick
pick-fits true x y p q = p
pick-fits false x y p q = q

-- ---- a series' minimum, maximum and sum

pub record Fitting (a b s : Float) : Type 0 where
  pub min : fits binary64 a ≡ true
  pub max : fits binary64 b ≡ true
  pub sum : fits binary64 s ≡ true

-- without values
pub start_fits : Fitting greatest_finite least_finite zero_float
start_fits = record { min = literal-fits 0x7fef_ffff_ffff_ffff; max = literal-fits 0xffef_ffff_ffff_ffff; sum = literal-fits 0 }

-- with a value more
pub more-fits : (a b s v : Float) → histograms.finite v ≡ true → Fitting a b s → Fitting (lesser_of a v) (greater_of b v) (add binary64 s v)
more-fits a b s v t k =
    record {
      min = pick-fits (lt v a) v a (value-fits v t) k.min;
      max = pick-fits (lt b v) v b (value-fits v t) k.max;
      sum = is_true (fits binary64 (add binary64 s v)) (add-fits binary64 s v);
    }

-- a row of three, and a store with it at one place
row_fits : (a b s : Float) → Fitting a b s → (i : ℕ) → fits binary64 (get_or (a ∷ b ∷ s ∷ []) i nan) ≡ true
row_fits a b s k zero = k.min
row_fits a b s k (suc zero) = k.max
row_fits a b s k (suc (suc zero)) = k.sum
row_fits a b s k (suc (suc (suc i))) = is_true (fits binary64 nan) (nan-fits binary64)

set-fits : (rows : List (List Float)) (x : ℕ) (row : List Float) → AllFit rows → ((i : ℕ) → fits binary64 (get_or row i nan) ≡ true) → AllFit (set rows x row)
set-fits [] x row l g y i = l y i
set-fits (a ∷ rows) zero row l g zero i = g i
set-fits (a ∷ rows) zero row l g (suc y) i = l (suc y) i
set-fits (a ∷ rows) (suc x) row l g zero i = l zero i
set-fits (a ∷ rows) (suc x) row l g (suc y) i = set-fits rows x row (λ k. l (suc k)) g y i

pub put-fits : (rows : List (List Float)) (x : ℕ) (a b s : Float) → AllFit rows → Fitting a b s → AllFit (set rows x (a ∷ b ∷ s ∷ []))
put-fits rows x a b s l k = set-fits rows x (a ∷ b ∷ s ∷ []) l (row_fits a b s k)
