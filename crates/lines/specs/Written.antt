-- Numbers as they are written. Document 01: 'f64 bits are written as 16 hexadecimal digits, all else in decimal', and 'decimals have no plus
-- sign, leading zero or -0'. Bytes are ASCII: `0` is 48, `-` is 45. The 16 digits are `hex_digits` of crate `text`. Assumes nothing.
use Rattle.std.specs.Prelude.{ℕ, zero, suc, ◌+◌, ◌/◌, ◌%◌, List, [], ◌∷◌, ◌++◌, ltb, ℤ, pos, negsuc}
use Rattle.laws.specs.Pick.{pick}

-- the decimal digits of a number that has at most k of them: the last behind those of its tenth part, which a number below 10 has not
unfoldable pub digits_within : ℕ → ℕ → List ℕ
digits_within zero x = []
digits_within (suc k) x = pick (ltb x 10) ((48 + x) ∷ []) (digits_within k (x / 10) ++ ((48 + x % 10) ∷ []))

-- a number in decimal: below 2^64 it has at most 20 digits
unfoldable pub decimal : ℕ → List ℕ
decimal x = digits_within 20 x

-- a signed one, a minus sign before it where it is below 0
abbrev pub signed : ℤ → List ℕ
signed (pos x) = decimal x
signed (negsuc x) = 45 ∷ decimal (suc x)
