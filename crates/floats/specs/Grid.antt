-- f64s that are whole numbers of 1/1024: how many, their exact total, the total of their magnitudes. Assumes nothing.
use Rattle.std.specs.Prelude.{◌≡◌, ℕ, suc, ◌+◌, ◌*◌, ◌/◌, ◌%◌, ◌^◌, ◌≤◌, Bool, true, false, eqb, ℤ, pos, negsuc, neg_ℤ, nat_abs, ◌+ℤ◌, Float}
use mathlib.Core.List.{List, foldr}
use Rattle.laws.specs.Lists.{All}
use Rattle.std.specs.Float.{nan, inf, fin, binary64}
use Rattle.std.specs.Float.Ieee.{up, down, round}

-- the f64 nearest to z / 1024; +0.0 for 0. It is exact for magnitudes up to 2 ^ 53 (the law `grid-exact`)
unfoldable pub grid : ℤ → Float
grid (pos n) = round binary64 false n 1024
grid (negsuc n) = round binary64 true (suc n) 1024

-- a with the sign s
abbrev pub signed : Bool → ℕ → ℤ
signed true a = neg_ℤ (pos a)
signed false a = pos a

-- x is finite and is z / 1024; both zeros are 0 / 1024
abbrev pub OnGrid : Float → ℤ → Type 0
OnGrid nan z = ⊥
OnGrid (inf s) z = ⊥
OnGrid (fin s m e) z = (m * up e * 1024 ≡ nat_abs z * down e) × (signed s (nat_abs z) ≡ z)

-- how many 1/1024ths x is, cut toward 0
abbrev pub steps : Float → ℤ
steps nan = pos 0
steps (inf s) = pos 0
steps (fin s m e) = signed s (m * up e * 1024 / down e)

-- x is a whole number of 1/1024
abbrev pub Whole : Float → Type 0
Whole x = OnGrid x (steps x)

-- the same as a test: finite, and nothing is left over (the theorem `WholeTest`)
unfoldable pub is_whole : Float → Bool
is_whole nan = false
is_whole (inf s) = false
is_whole (fin s m e) = eqb (m * up e * 1024 % down e) 0

-- 2 ^ 43 in 1/1024ths
abbrev pub most_steps : ℕ
most_steps = 2 ^ 43 * 1024

-- the exact total, and the total of the magnitudes, in 1/1024ths
unfoldable pub exact_total : List Float → ℤ
exact_total = foldr (λ x t. steps x +ℤ t) (pos 0)

unfoldable pub weight : List Float → ℕ
weight = foldr (λ x t. nat_abs (steps x) + t) 0

-- whole numbers of 1/1024 whose magnitudes total at most 2 ^ 43
pub record Gridded (xs : List Float) : Type 0 where
  pub whole : All Whole xs
  pub light : weight xs ≤ most_steps
