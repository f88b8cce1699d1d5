-- How numbers are spelled. Document 01: 'decimals have no plus sign, leading zero or -0; bits use 0-9 and A-F', and 'f64 bits are
-- written as 16 hexadecimal digits'. Bytes are ASCII. Assumes nothing.
use Rattle.std.specs.Prelude.{ℕ, zero, suc, ◌+◌, ◌-◌, ◌*◌, ◌/◌, ◌%◌, ◌^◌, Bool, true, false, Option, Some, None, List, [], ◌∷◌, length, drop, ◌==◌, nat_le, nat_lt, slice_index}
use Rattle.laws.specs.Pick.{pick}
use Rattle.text.specs.declared.numbers.Integer.{Integer}

-- the digit that a byte is: 0-9 are the bytes 48 to 57, A-F are 65 to 70; 16 for every other byte
unfoldable pub digit_of : ℕ → ℕ
digit_of b = pick (nat_lt b 48) 16 (pick (nat_le b 57) (b - 48) (pick (nat_lt b 65) 16 (pick (nat_le b 70) (b - 55) 16)))

-- What digits say behind those that said x: a digit is worth base times the one behind it. None where a byte is no digit of the base, or
-- where the number is above 2^64 - 1.
unfoldable pub spelled_from : ℕ → ℕ → List ℕ → Option ℕ
spelled_from base x [] = Some x
spelled_from base x (b ∷ bs) =
    pick (nat_le base (digit_of b)) None (pick (nat_le (2 ^ 64) (x * base + digit_of b)) None (spelled_from base (x * base + digit_of b) bs))

-- no byte, or a zero before others
unfoldable pub ill_led : List ℕ → Bool
ill_led bs = pick (length bs == 0) true (pick (length bs == 1) false (slice_index bs 0 == 48))

unfoldable pub decimal_of : List ℕ → Option ℕ
decimal_of bs = pick (ill_led bs) None (spelled_from 10 0 bs)

unfoldable pub bits_of : List ℕ → Option ℕ
bits_of bs = pick (length bs == 16) (spelled_from 16 0 bs) None

-- whether a minus sign, the byte 45, stands first
unfoldable pub has_minus : List ℕ → Bool
has_minus bs = pick (length bs == 0) false (slice_index bs 0 == 45)

abbrev pub with_minus : Option ℕ → Option Integer
with_minus None = None
with_minus (Some x) = pick (x == 0) None (Some (record { negative = true; size = x }))

abbrev pub without_minus : Option ℕ → Option Integer
without_minus None = None
without_minus (Some x) = Some (record { negative = false; size = x })

-- a decimal, or a minus sign and a decimal other than 0: whether there is a sign, and the decimal
unfoldable pub signed_of : List ℕ → Option Integer
signed_of bs = pick (has_minus bs) (with_minus (decimal_of (drop 1 bs))) (without_minus (decimal_of bs))

-- the byte of a digit below 16, and the last k hexadecimal digits of a number, the most significant first
unfoldable pub glyph_of : ℕ → ℕ
glyph_of d = pick (nat_lt d 10) (48 + d) (55 + d)

unfoldable pub hex_digits : ℕ → ℕ → List ℕ
hex_digits zero n = []
hex_digits (suc k) n = glyph_of (n / 16 ^ k % 16) ∷ hex_digits k n
