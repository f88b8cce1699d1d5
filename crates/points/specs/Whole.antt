-- Whole numbers: i64. Document 02, L6. Assumes nothing.
-- A sum is one of the integers of the logic, which have no end: what would leave i64 is refused with 16 (`takes`, `beyond`).
use Rattle.std.specs.Prelude.{◌^◌, ◌<◌, ◌≡◌, Bool, true, false, List, map, ℤ, pos, negsuc, ◌+ℤ◌, Option, Some, None}
use Rattle.laws.specs.Pick.{pick}
use Rattle.integers.specs.Answers.{nearest_of, lesser_of, greater_of, in_range, is_shown, smaller_of, larger_of}
use Rattle.integers.specs.Totals.{total, weight}
use Rattle.points.specs.Number.{Number}

-- both or neither
abbrev pub both_or_none : Option ℤ → Option ℤ → Bool
both_or_none None None = true
both_or_none None (Some y) = false
both_or_none (Some x) None = false
both_or_none (Some x) (Some y) = true

-- neither is there, or both are and are the same number
abbrev pub SameExtreme : Option ℤ → Option ℤ → Type 0
SameExtreme None None = Unit {0}
SameExtreme None (Some y) = ⊥
SameExtreme (Some x) None = ⊥
SameExtreme (Some x) (Some y) = x ≡ y

-- the exact total, whatever the order and the cutting; switched off, 0
abbrev pub SumStands : Bool → ℤ → List ℤ → Type 0
SumStands true x vs = x ≡ total vs
SumStands false x vs = x ≡ pos 0

-- "whenever the magnitudes of each set's collected values total at most 2^63 - 1"
pub record Light (vs : List ℤ) : Type 0 where
  pub light : weight vs < 2 ^ 63

-- "The bucket comes from the f64 nearest to the whole number .. Minimum, maximum and sum are i64"; "16 when the sum would leave i64 (with the
-- sum off none is kept)"
abbrev pub whole : Number
whole =
    record {
      Value = ℤ;
      taken = in_range;
      Known = λ z. in_range z ≡ true;
      finite = λ z. true;
      near = nearest_of;
      nears = map nearest_of;
      lesser = lesser_of;
      greater = greater_of;
      greatest = pos 9223372036854775807;
      least = negsuc 9223372036854775807;
      zero = pos 0;
      noted = λ sums x v. pick sums (x +ℤ v) x;
      takes = λ sums x v. pick sums (in_range (x +ℤ v)) true;
      add = λ x y. x +ℤ y;
      beyond = λ x y. pick (in_range (x +ℤ y)) 0 16;
      Extreme = Option ℤ;
      none = None;
      value = Some;
      is_shown = is_shown;
      smaller = smaller_of;
      larger = larger_of;
      finite_or_none = both_or_none;
      SameExtreme = SameExtreme;
      SumStands = SumStands;
      Within = Light;
    }
