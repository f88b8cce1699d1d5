-- The mean of a list of values in hundredths. Assumes nothing.
use Rattle.std.specs.Prelude.{Bool, List, eqb, ℤ, pos, length, Float}
use Rattle.laws.specs.Pick.{pick}
use Rattle.laws.specs.Said.{Said, refusal, success}
use Rattle.floats.specs.Grid.{exact_total}
use Rattle.mean.specs.Rounding.{hundredths}

-- of values that are whole numbers of 1/1024: of their exact total, and their number; with the sum switched off a point's sum is 0.0. Of
-- other values it says nothing
unfoldable pub mean_of_all : Bool → List Float → Said ℤ
mean_of_all sums vs = pick (eqb (length vs) 0) (refusal 13) (success (hundredths (pick sums (exact_total vs) (pos 0)) (length vs)))
