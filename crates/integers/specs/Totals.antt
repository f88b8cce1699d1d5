-- The exact total of whole numbers, and the total of their magnitudes. Assumes nothing.
use Rattle.std.specs.Prelude.{ℕ, ◌+◌, List, ℤ, pos, ◌+ℤ◌, unsigned_abs}
use mathlib.Core.List.{foldr}

unfoldable pub total : List ℤ → ℤ
total = foldr (λ z t. z +ℤ t) (pos 0)

unfoldable pub weight : List ℤ → ℕ
weight = foldr (λ z t. unsigned_abs z + t) 0
