-- What the functions of this crate answer. Assumes nothing.
use Rattle.std.specs.Prelude.{ℕ, Bool, true, false, not, ◌&&◌, eqb, Float, Option, Some, None}
use Rattle.std.specs.Float.{binary64}
use Rattle.std.specs.Float.Ieee.{lt, is_nan, to_bits}
use Rattle.laws.specs.Pick.{pick}

-- "the smaller min and larger max (equal: the first's)"; zeros compare equal, so the zero held first stays
abbrev pub lesser_of : Float → Float → Float
lesser_of a v = pick (lt v a) v a

abbrev pub greater_of : Float → Float → Float
greater_of a v = pick (lt a v) v a

-- whether a point shows its extremes, by the min/max switch and its count: "with min/max off a point has neither", and document 02, L4:
-- "a point with count 0 carries no minimum and no maximum"
abbrev pub shows : Bool → ℕ → Bool
shows switch count = switch && not (eqb count 0)

-- the extreme that it then has, of the number that is held, an f64 or an i64
abbrev pub shown_of : {A : Type 0} → Bool → ℕ → A → Option A
shown_of switch count x = pick (shows switch count) (Some x) None

abbrev pub is_shown : {A : Type 0} → Option A → Bool
is_shown None = false
is_shown (Some x) = true

-- of two extremes, the one that is chosen where both are there; document 02, L4: "Merging with such a point keeps the other's extremes"
abbrev pub either_by : {A : Type 0} → (A → A → A) → Option A → Option A → Option A
either_by choose None b = b
either_by choose (Some x) None = Some x
either_by choose (Some x) (Some y) = Some (choose x y)

-- the smaller of two minima, and the larger of two maxima
abbrev pub smaller_of : Option Float → Option Float → Option Float
smaller_of = either_by lesser_of

abbrev pub larger_of : Option Float → Option Float → Option Float
larger_of = either_by greater_of

-- "A NaN sum is handed out as 7FF8000000000000"
abbrev pub bits_of : Float → ℕ
bits_of x = pick (is_nan x) 0x7ff8_0000_0000_0000 (to_bits binary64 x)
