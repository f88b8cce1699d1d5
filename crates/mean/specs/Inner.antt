-- BETWEEN OUR OWN CRATES: serves inner contracts and proofs; nobody needs it to believe the public calls or the theorems.
-- A sum as a sign and so many 1/1024ths, and the same by a mantissa and an exponent, as the code finds it. Assumes nothing.
use Rattle.std.specs.Prelude.{ℕ, suc, ◌-◌, ◌*◌, ◌/◌, ◌^◌, Bool, true, false, ◌&&◌, leb, eqb, ℤ, pos, negsuc, Float, Option, Some, None}
use Rattle.laws.specs.Pick.{pick}
use Rattle.floats.specs.Grid.{steps}
use Rattle.mean.specs.declared.Steps as S
use Rattle.mean.specs.Mean.{on_grid}

-- so many 1/1024ths, or none off the grid
abbrev pub Sum : Type 0
Sum = Option S.Steps

abbrev pub OffGrid : Sum
OffGrid = None

abbrev pub Steps : Bool → ℕ → Sum
Steps s n = Some (record { negative = s; steps = n })

-- a whole number by its sign and its size; 0 has no sign, so -0.0 is as 0.0
abbrev pub as_sum : ℤ → Sum
as_sum (pos n) = Steps false n
as_sum (negsuc n) = Steps true (suc n)

unfoldable pub sum_of : Float → Sum
sum_of x = pick (on_grid x) (as_sum (steps x)) OffGrid

-- ---- of m * 2 ^ e units of 2 ^ -2048, m a mantissa of 53 digits: 1/1024 is 2 ^ 2038 of them

-- m is a whole number of 2 ^ k
unfoldable pub shifted : Bool → ℕ → ℕ → Sum
shifted negative m k = pick (eqb (m / 2 ^ k * 2 ^ k) m) (Steps negative (m / 2 ^ k)) OffGrid

-- above 2 ^ 43 from the next mantissa on
unfoldable pub sum_of_parts : Bool → ℕ → ℕ → Sum
sum_of_parts negative m e =
    pick (leb e 2038)
    (pick (leb (2038 - e) 52) (shifted negative m (2038 - e)) OffGrid)
    (pick (eqb e 2039 && eqb m (2 ^ 52)) (Steps negative (2 ^ 53)) OffGrid)
