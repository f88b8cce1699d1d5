-- The lines that are printed. Document 01, "A run of the gauge program": 'A line that it can't read .. prints `? N`', and '`c` start, time,
-- points; `p` set, count, zero count, scale, min, max, sum, then positive and negative row'. The lines `q`, of an explicit point, and `v`, of a
-- sum or last value, are those of docs/REPLAY.md: 'q SET COUNT MIN MAX SUM BUCKETS BOUNDS', 'v SET VALUE'; a card's line is 'SET MEAN' or
-- 'SET ! N'. The letters are ASCII. Assumes nothing.
use Rattle.std.specs.Prelude.{ℕ, zero, suc, ◌+◌, true, false, List, [], ◌∷◌, ◌++◌, map, ltb, length, get_or, take, ℤ, Float, Option, Some, None}
use Rattle.laws.specs.Pick.{pick}
use Rattle.laws.specs.Said.{Said, refusal, success}
use Rattle.text.specs.Numbers.{hex_digits}
use Rattle.lines.specs.Written.{decimal, signed}
use Rattle.tally.specs.Sets.{Set}
use Rattle.sets.specs.Rows.{set_of}
use Rattle.point.specs.Handing.{Stored}
use Rattle.point.specs.Signed.{scale_shown, offset_shown}
use Rattle.point.specs.declared.Figures.{Figures}
use Rattle.point.specs.declared.Figures.TheVariants.{Exponential, Explicit}
use Rattle.point.specs.declared.Point as P
use Rattle.mean.specs.Mean.{mean_in}
use Rattle.listing.specs.Listed.{Output, point_at, stored_at}
use Rattle.listing.specs.declared.Cursor.{Cursor}
use Rattle.listing.specs.declared.Entry.{Entry}
use Rattle.printing.specs.declared.Form.{Form}
use Rattle.printing.specs.declared.Form.TheVariants.{Point, Card}
use Rattle.printing.specs.Fields.{listed, line, set_field, float_field, extreme_field, integer_field, row_field}

-- ---- a point

-- min, max, sum, and what follows
abbrev pub held_fields : P.Point → List (List ℕ) → List (List ℕ)
held_fields p rest = extreme_field p.min ∷ extreme_field p.max ∷ float_field p.sum ∷ rest

-- from the scale on, of the exponential kind; behind the count, of the explicit kind
abbrev pub exponential_fields : P.Point → List ℕ → List ℕ → List (List ℕ)
exponential_fields p xs ys =
    integer_field (scale_shown p.figures)
    ∷ held_fields p (row_field (offset_shown false p.figures) xs ∷ row_field (offset_shown true p.figures) ys ∷ [])

abbrev pub explicit_fields : P.Point → List ℕ → List Float → List (List ℕ)
explicit_fields p xs bounds = held_fields p (listed (map decimal xs) ∷ listed (map float_field bounds) ∷ [])

-- the fields behind the set
abbrev pub figures_fields : Figures → Stored → List (List ℕ)
figures_fields (Exponential c) x = decimal c.count ∷ decimal c.zeros ∷ exponential_fields x.point x.pos x.neg
figures_fields (Explicit n) x = decimal n ∷ explicit_fields x.point x.pos x.bounds

-- `p` is the byte 112, `q` 113
abbrev pub letter : Figures → ℕ
letter (Exponential c) = 112
letter (Explicit n) = 113

-- the line of a point, with its set
unfoldable pub point_line : Set → Stored → List ℕ
point_line s x = line ((letter x.point.figures ∷ []) ∷ set_field s ∷ figures_fields x.point.figures x)

-- ---- its card. Request L2: "one line per blade: the mean deviation in whole hundredths of a millimetre"

-- the mean as `-13`, a refusal as `! 13`; `!` is the byte 33
abbrev pub mean_fields : Said ℤ → List (List ℕ)
mean_fields (success z) = signed z ∷ []
mean_fields (refusal n) = (33 ∷ []) ∷ decimal n ∷ []

-- the line of a point's card, with its set
unfoldable pub card_line : Set → Stored → List ℕ
card_line s x = line (set_field s ∷ mean_fields (mean_in x))

-- the line of a point in a form
abbrev pub line_of : Form → Set → Stored → List ℕ
line_of Point = point_line
line_of Card = card_line

-- ---- the points of a list

-- The line of what was found at a cursor, and the cursor behind it. Nothing is printed where there is no point, or no row of its set. A row
-- has words for eight attributes.
abbrev pub found_line : Form → Cursor → Option Entry → Output → List Float → List ℕ
found_line form at None o bounds = []
found_line form at (Some e) o bounds =
    pick (ltb at.place (length o.sets)) (line_of form (take 8 (set_of (get_or o.sets at.place []))) (stored_at at e bounds o)) []

abbrev pub found_next : Cursor → Option Entry → Output → Cursor
found_next at None o = at
found_next at (Some e) o = pick (ltb at.place (length o.sets)) e.next at

abbrev pub found : Cursor → Output → Option Entry
found at o = point_at at o.words (length o.pos) (length o.neg)

-- the same of the point at a cursor
unfoldable pub line_at : Form → Cursor → Output → List Float → List ℕ
line_at form at o bounds = found_line form at (found at o) o bounds

unfoldable pub next_at : Cursor → Output → Cursor
next_at at o = found_next at (found at o) o

-- the lines of k points from a cursor on, of what is printed of the point at a cursor and of the cursor behind it
unfoldable pub lines_by : (Cursor → List ℕ) → (Cursor → Cursor) → ℕ → Cursor → List ℕ
lines_by printed next zero at = []
lines_by printed next (suc k) at = printed at ++ lines_by printed next k (next at)

-- ---- points that are one value (request L1)

-- the line of a point, from its set and the bits of its value; `v` is the byte 118
unfoldable pub value_line : Set → ℕ → List ℕ
value_line s bits = line ((118 ∷ []) ∷ set_field s ∷ hex_digits 16 bits ∷ [])

-- the line at a place: nothing where there is no row of its set, or no value
unfoldable pub value_at : ℕ → List (List ℕ) → List ℕ → List ℕ
value_at k sets values =
    pick (ltb k (length sets)) (pick (ltb k (length values)) (value_line (take 8 (set_of (get_or sets k []))) (get_or values k 0)) []) []

-- the lines of n points from place k on
unfoldable pub values_from : ℕ → ℕ → List (List ℕ) → List ℕ → List ℕ
values_from zero k sets values = []
values_from (suc n) k sets values = value_at k sets values ++ values_from n (k + 1) sets values

-- ---- what the programs print

-- `c START TIME POINTS`; `c` is the byte 99
unfoldable pub collection_head : ℕ → ℕ → ℕ → List ℕ
collection_head start time points = line ((99 ∷ []) ∷ decimal start ∷ decimal time ∷ decimal points ∷ [])

-- and the lines of the first points of the list
unfoldable pub collection_lines : Form → ℕ → ℕ → ℕ → Output → List Float → List ℕ
collection_lines form start time points o bounds =
    collection_head start time points
    ++ lines_by (λ at. line_at form at o bounds) (λ at. next_at at o) points (record { place = 0; pos = 0; neg = 0 })

-- the same of points that are one value
unfoldable pub value_lines : ℕ → ℕ → ℕ → List (List ℕ) → List ℕ → List ℕ
value_lines start time points sets values = collection_head start time points ++ values_from points 0 sets values

-- `? N`; `?` is the byte 63
unfoldable pub unread_line : ℕ → List ℕ
unread_line n = line ((63 ∷ []) ∷ decimal n ∷ [])
