-- The numbers of document 01: f64. Assumes nothing.
use Rattle.std.specs.Prelude.{◌≡◌, Bool, true, false, ◌&&◌, List, Float, Option, Some, None}
use Rattle.std.specs.Float.{binary64}
use Rattle.std.specs.Float.Ieee.{add, eq, fits}
use Rattle.std.specs.Float.Ieee.Scale.{finite}
use Rattle.floats.specs.Answers.{lesser_of, greater_of, is_shown, smaller_of, larger_of}
use Rattle.floats.specs.Grid.{grid, exact_total, Gridded}
use Rattle.floats.specs.Starts.{greatest_finite, least_finite, zero_float, FiniteF64}
use Rattle.points.specs.Number.{Number}

-- "Held extremes are finite, both or neither"
abbrev pub finite_or_none : Option Float → Option Float → Bool
finite_or_none None None = true
finite_or_none None (Some y) = false
finite_or_none (Some x) None = false
finite_or_none (Some x) (Some y) = finite x && finite y

-- finite, and equal as numbers
pub record SameNumber (x y : Float) : Type 0 where
  pub left : FiniteF64 x
  pub right : FiniteF64 y
  pub same : eq x y ≡ true

-- neither is there, or both are and are the same number
abbrev pub SameExtreme : Option Float → Option Float → Type 0
SameExtreme None None = Unit {0}
SameExtreme None (Some y) = ⊥
SameExtreme (Some x) None = ⊥
SameExtreme (Some x) (Some y) = SameNumber x y

-- "The sum under demand 3's premise is the exact total (switched off: 0.0)": `grid z` is z / 1024. Switched off it is 0.0 whatever the
-- values; switched on and off the grid it depends on the order of recording and merging, and nothing is said of it here
abbrev pub SumStands : Bool → Float → List Float → Type 0
SumStands true x vs = Gridded vs → x ≡ grid (exact_total vs)
SumStands false x vs = x ≡ zero_float

-- "The sum is f64 addition in order of recording, one rounding each, from 0.0"; a series holds it whatever the switches say: they act where
-- a point is handed out. No sum is refused
abbrev pub real : Number
real =
    record {
      Value = Float;
      taken = λ v. finite v && fits binary64 v;
      Known = FiniteF64;
      finite = finite;
      near = λ v. v;
      nears = λ vs. vs;
      lesser = lesser_of;
      greater = greater_of;
      greatest = greatest_finite;
      least = least_finite;
      zero = zero_float;
      noted = λ sums x v. add binary64 x v;
      takes = λ sums x v. true;
      add = add binary64;
      beyond = λ x y. 0;
      Extreme = Option Float;
      none = None;
      value = Some;
      is_shown = is_shown;
      smaller = smaller_of;
      larger = larger_of;
      finite_or_none = finite_or_none;
      SameExtreme = SameExtreme;
      SumStands = SumStands;
      Within = λ vs. Unit;
    }
