-- What the functions of this crate answer. Assumes nothing.
use Rattle.std.specs.Prelude.{ℕ, suc, ◌-◌, ◌^◌, Bool, true, false, ℤ, pos, negsuc, ◌+ℤ◌, ◌==◌, int_lt, nat_lt, Float, Option, Some, None}
use Rattle.std.specs.Int.Signed.{mag}
use Rattle.std.specs.Float.{binary64}
use Rattle.std.specs.Float.Ieee.{of_int}
use Rattle.laws.specs.Pick.{pick}
use Rattle.floats.specs.Answers.{either_by}
pub use Rattle.floats.specs.Answers.{shown_of, is_shown}

-- document 02, L6: "the f64 nearest to the whole number, ties to the even mantissa" (the laws `nearest-is`, `one-nearest`)
abbrev pub nearest_of : ℤ → Float
nearest_of z = of_int binary64 z

-- low <= z < end
abbrev pub between : ℤ → ℤ → ℤ → Bool
between low z end = pick (int_lt z low) false (int_lt z end)

abbrev pub lesser_of : ℤ → ℤ → ℤ
lesser_of a v = pick (int_lt v a) v a

abbrev pub greater_of : ℤ → ℤ → ℤ
greater_of a v = pick (int_lt a v) v a

-- z is an i64: `mag z` is n both for n and for -(n + 1)
abbrev pub in_range : ℤ → Bool
in_range z = nat_lt (mag z) (2 ^ 63)

-- "16 when the sum would leave i64"
unfoldable pub sum_of : ℤ → ℤ → Option ℤ
sum_of a v = pick (in_range (a +ℤ v)) (Some (a +ℤ v)) None

-- "(with the sum off none is kept)"
abbrev pub kept_sum : Bool → ℤ → ℤ → Option ℤ
kept_sum on held v = pick on (sum_of held v) (Some held)

-- 16 comes last
abbrev pub last_number : ℕ → ℕ
last_number n = pick (n == 0) 16 n

-- two's complement
abbrev pub bits_of : ℤ → ℕ
bits_of (pos n) = n
bits_of (negsuc n) = 2 ^ 64 - suc n

unfoldable pub of_bits : ℕ → ℤ
of_bits b = pick (nat_lt b (2 ^ 63)) (pos b) (negsuc (2 ^ 64 - suc b))

-- ---- extremes, as those of f64 (crate floats)

abbrev pub smaller_of : Option ℤ → Option ℤ → Option ℤ
smaller_of = either_by lesser_of

abbrev pub larger_of : Option ℤ → Option ℤ → Option ℤ
larger_of = either_by greater_of
