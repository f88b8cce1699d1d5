-- Finite f64s: those that a series starts from, and what is chosen of such. Assumes nothing.
use mathlib.Core.Path.{◌≡◌, sym, subst}
use mathlib.Core.List.{List, [], ◌∷◌, foldl}
use mathlib.Core.Bool.{Bool, true, false}
use lib.Dec.{T}
use lib.Ieee.{Float, nan, inf, fin, binary64, fits, of_bits}
use lib.Ieee.Scale.{finite}
use lib.Ieee.Bits.{of_bits-fits}
use Rattle.laws.specs.Pick.{pick}
use Rattle.laws.specs.Lists.{All}
use Rattle.floats.specs.Starts.{greatest_finite, least_finite, FiniteF64}
use Rattle.floats.proofs.Order.{Ok}
use Rattle.floats.proofs.Choices.{before, chosen}

-- as tests give it
pub finite-f64 : (x : Float) → finite x ≡ true → fits binary64 x ≡ true → FiniteF64 x
finite-f64 x h k = record { known = subst T (sym h) tt; fits = subst T (sym k) tt }

pub finite-ok : (x : Float) → FiniteF64 x → Ok binary64 x
finite-ok nan v = absurd v.known
finite-ok (inf s) v = absurd v.known
finite-ok (fin s m e) v = v.fits

-- ---- the two starts
abbrev pub start : Bool → Float
start true = greatest_finite
start false = least_finite

pub start-finite : (up : Bool) → FiniteF64 (start up)
unfolding of_bits
start-finite true = record { known = tt; fits = of_bits-fits binary64 0x7fef_ffff_ffff_ffff }
start-finite false = record { known = tt; fits = of_bits-fits binary64 0xffef_ffff_ffff_ffff }

-- ---- choices of finite f64s
pub chosen-finite : (up : Bool) (a x : Float) → FiniteF64 a → FiniteF64 x → FiniteF64 (chosen up a x)
unfolding pick
chosen-finite up a x p q = go (before up x a)
  where
    go : (b : Bool) → FiniteF64 (pick b x a)
    go true = q
    go false = p

pub fold-finite : (up : Bool) (a : Float) (xs : List Float) → FiniteF64 a → All FiniteF64 xs → FiniteF64 (foldl (chosen up) a xs)
unfolding All
fold-finite up a [] p q = p
fold-finite up a (x ∷ xs) p q = fold-finite up (chosen up a x) xs (chosen-finite up a x p q.0) q.1
