-- What a line asks for. Document 01, "A run of the gauge program": 'Input `e SIZE SCALE LIMIT START`, then `r BITS SET` or `c TIME`', 'One
-- space parts fields', 'A line that it can't read, that is over 255 bytes, refused, before any accepted `e`, or has LIMIT above 30 prints
-- `? N`'. A line is its bytes without the newline; `e` is the byte 101, `r` 114, `c` 99, a space 32. Assumes nothing.
use Rattle.std.specs.Prelude.{ℕ, Bool, ◌&&◌, List, leb, eqb, ℤ, pos, ◌-ℤ◌, length, get_or, take, drop, Option, Some, None}
use Rattle.laws.specs.Pick.{pick}
use Rattle.text.specs.Numbers.{decimal_of, signed_of, bits_of}
use Rattle.text.specs.Fields.{spaces_of, field_of}
use Rattle.text.specs.declared.numbers.Integer.{Integer}
use Rattle.lines.specs.Spelled.{spelled, told, kept}
use Rattle.gauge_lines.specs.declared.fields.Board.{Board}
use Rattle.gauge_lines.specs.declared.fields.Wanted.{Wanted}
use Rattle.gauge_lines.specs.declared.fields.Call.{Call}
use Rattle.gauge_lines.specs.declared.fields.Call.TheVariants as C

-- ---- `e SIZE SCALE LIMIT START`

-- A SIZE above 999 can't be read, nor a SCALE above 999 or below -999. Configuring would refuse them (numbers 1 and 2): either way the line
-- prints `? N` and changes nothing.
abbrev pub size_in : Option ℕ → Option ℕ
size_in None = None
size_in (Some x) = pick (leb x 999) (Some x) None

unfoldable pub with_sign : Bool → ℕ → ℤ
with_sign negative x = pick negative (pos 0 -ℤ pos x) (pos x)

abbrev pub scale_in : Option Integer → Option ℤ
scale_in None = None
scale_in (Some i) = pick (leb i.size 999) (Some (with_sign i.negative i.size)) None

-- where all four can be read, and LIMIT is not above 30
abbrev pub wanted_of : Option ℕ → Option ℤ → Option ℕ → Option ℕ → Option Wanted
wanted_of None scale limit start = None
wanted_of (Some n) None limit start = None
wanted_of (Some n) (Some z) None start = None
wanted_of (Some n) (Some z) (Some l) None = None
wanted_of (Some n) (Some z) (Some l) (Some t) = pick (leb l 30) (Some (record { size = n; scale = z; limit = l; start = t })) None

unfoldable pub settings_of : List ℕ → Option Wanted
settings_of bs =
    pick (eqb (spaces_of bs) 4)
    (wanted_of (size_in (decimal_of (field_of bs 1))) (scale_in (signed_of (field_of bs 2))) (decimal_of (field_of bs 3)) (decimal_of (field_of bs 4)))
    None

-- ---- `r BITS SET`

-- 'bits are written as 16 hexadecimal digits': BITS stand at the places 2 to 17, behind the letter and a space; behind a space at place 18
-- comes the SET, of one byte or more. No digit has a space in it, nor has a set that can be read: the line has no other fields.
unfoldable pub parted : List ℕ → Bool
parted bs = leb 20 (length bs) && eqb (get_or bs 18 0) 32

abbrev pub bits_in : List ℕ → Option ℕ
bits_in bs = bits_of (take 16 (drop 2 bs))

abbrev pub set_in : List ℕ → Option ℕ
set_in bs = told 0 (spelled (drop 19 bs))

abbrev pub both_of : Option ℕ → Option ℕ → Option Board
both_of None bits = None
both_of (Some n) None = None
both_of (Some n) (Some x) = Some (record { bits = x; many = n })

-- the bits, and how many attributes the set has
unfoldable pub board_of : List ℕ → Option Board
board_of bs = pick (parted bs) (both_of (set_in bs) (bits_in bs)) None

-- the set's attributes in a store
unfoldable pub attributes_in : List ℕ → List (List ℕ) → List (List ℕ)
attributes_in bs store = pick (parted bs) (kept 0 (spelled (drop 19 bs)) store) store

-- ---- `c TIME`

unfoldable pub time_of : List ℕ → Option ℕ
time_of bs = pick (eqb (spaces_of bs) 1) (decimal_of (field_of bs 1)) None

-- ---- any line

-- the letter that a space follows; 0, which is no letter, where there is none
unfoldable pub letter_of : List ℕ → ℕ
letter_of bs = pick (eqb (get_or bs 1 0) 32) (get_or bs 0 0) 0

-- before a map is running only `e` can be followed
unfoldable pub by_letter : ℕ → Bool → Call
by_letter letter running =
    pick (eqb letter 101) C.Start (pick running (pick (eqb letter 114) C.Record (pick (eqb letter 99) C.Collect C.Unread)) C.Unread)

-- The call that a line makes. 'A line's newline .. may be missing at the end': where the input is over, no byte is no line.
unfoldable pub call_of : List ℕ → Bool → Bool → Call
call_of bs running over =
    pick (eqb (length bs) 0) (pick over C.None C.Unread) (pick (leb (length bs) 255) (by_letter (letter_of bs) running) C.Unread)
