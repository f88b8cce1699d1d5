-- The fields of the lines that are printed, each a list of bytes. Document 01: 'One space parts fields', '`-` is the empty set. Other sets are
-- KEY:VALUE joined by commas', 'row as offset:counts'. Bytes are ASCII: newline 10, space 32, `,` 44, `-` 45, `:` 58. Assumes nothing.
use Rattle.std.specs.Prelude.{ℕ, List, [], ◌∷◌, ◌++◌, map, Float, Option, Some, None, ℤ}
use Rattle.text.specs.Numbers.{hex_digits}
use Rattle.lines.specs.Written.{decimal, signed}
use Rattle.floats.specs.Answers.{bits_of}
use Rattle.tally.specs.Sets.{Set}

-- ---- several texts

-- a byte before each of several
unfoldable pub each : ℕ → List (List ℕ) → List ℕ
each b [] = []
each b (x ∷ xs) = b ∷ (x ++ each b xs)

-- several joined by a byte
unfoldable pub joined : ℕ → List (List ℕ) → List ℕ
joined b [] = []
joined b (x ∷ xs) = x ++ each b xs

-- several joined by commas, `-` if there are none
unfoldable pub listed : List (List ℕ) → List ℕ
listed [] = 45 ∷ []
listed (x ∷ xs) = joined 44 (x ∷ xs)

-- a line's fields parted by one space, and a newline
unfoldable pub line : List (List ℕ) → List ℕ
line fields = joined 32 fields ++ (10 ∷ [])

-- ---- one field

unfoldable pub attribute_field : ℕ × ℕ → List ℕ
attribute_field a = decimal a.0 ++ (58 ∷ decimal a.1)

unfoldable pub set_field : Set → List ℕ
set_field s = listed (map attribute_field s)

-- bits, 7FF8000000000000 for every NaN
unfoldable pub float_field : Float → List ℕ
float_field x = hex_digits 16 (bits_of x)

-- docs/REPLAY.md: "an extreme that is not kept is `-`"
abbrev pub extreme_field : Option Float → List ℕ
extreme_field None = 45 ∷ []
extreme_field (Some x) = float_field x

-- a scale or an offset, `-` where it is out of range
abbrev pub integer_field : Option ℤ → List ℕ
integer_field None = 45 ∷ []
integer_field (Some z) = signed z

-- "row as offset:counts. An empty row is `0:`"
unfoldable pub row_field : Option ℤ → List ℕ → List ℕ
row_field offset counts = integer_field offset ++ (58 ∷ joined 44 (map decimal counts))
