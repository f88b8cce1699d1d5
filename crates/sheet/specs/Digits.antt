-- Bytes as hexadecimal digits 0-9 and A-F, two to a byte, 64 digits a line. A newline is the byte 10. Assumes nothing.
use Rattle.std.specs.Prelude.{ℕ, zero, suc, ◌+◌, ◌*◌, ◌/◌, ◌%◌, Bool, ◌&&◌, List, [], ◌∷◌, ◌++◌, eqb, ltb, length, take, drop}
use Rattle.laws.specs.Tests.{all}
use Rattle.text.specs.Numbers.{digit_of, glyph_of}

-- ---- written

unfoldable pub hex_of : List ℕ → List ℕ
hex_of [] = []
hex_of (b ∷ bs) = glyph_of (b / 16) ∷ glyph_of (b % 16) ∷ hex_of bs

-- the line of a record
abbrev pub record_line : List ℕ → List ℕ
record_line bs = hex_of bs ++ (10 ∷ [])

-- the lines of n records
unfoldable pub record_lines : ℕ → List ℕ → List ℕ
record_lines zero bs = []
record_lines (suc n) bs = record_line (take 32 bs) ++ record_lines n (drop 32 bs)

-- ---- read

abbrev pub is_digit : ℕ → Bool
is_digit b = ltb (digit_of b) 16

-- a line is a record
unfoldable pub is_record : List ℕ → Bool
is_record bs = eqb (length bs) 64 && all is_digit bs

-- the bytes that digits spell
unfoldable pub bytes_in : List ℕ → List ℕ
bytes_in [] = []
bytes_in (a ∷ []) = []
bytes_in (a ∷ b ∷ bs) = (digit_of a * 16 + digit_of b) ∷ bytes_in bs
