-- The lines of points of a list, whichever number they are of. docs/REPLAY.md: 'MIN, MAX, SUM .. are bits (number kind `i`: decimals)'; all
-- else is as crate `printing` has it for f64. Assumes nothing.
use Rattle.std.specs.Prelude.{ℕ, true, false, List, [], ◌∷◌, ◌++◌, map, ltb, length, get_or, take, Float, Option, Some, None, ℤ}
use Rattle.laws.specs.Pick.{pick}
use Rattle.lines.specs.Written.{decimal, signed}
use Rattle.tally.specs.Sets.{Set}
use Rattle.sets.specs.Rows.{set_of}
use Rattle.whole_listing.specs.declared.Entry.{Entry}
use Rattle.point.specs.Signed.{scale_shown, offset_shown}
use Rattle.point.specs.declared.Figures.{Figures}
use Rattle.point.specs.declared.Figures.TheVariants.{Exponential, Explicit}
use Rattle.whole_point.specs.Handing.{Stored}
use Rattle.whole_point.specs.declared.Point as W
use Rattle.listing.specs.Listed.{Output}
use Rattle.listing.specs.declared.Cursor.{Cursor}
use Rattle.whole_listing.specs.Listed.{point_at, stored_at}
use Rattle.printing.specs.declared.Form.TheVariants.{Point}
use Rattle.printing.specs.Fields.{listed, line, set_field, float_field, integer_field, row_field}
use Rattle.printing.specs.Printed as F
use Rattle.printing.specs.Printed.{letter, lines_by, collection_head}

-- ---- a point of i64 values

-- docs/REPLAY.md: "an extreme that is not kept is `-`"
abbrev pub extreme_field : Option ℤ → List ℕ
extreme_field None = 45 ∷ []
extreme_field (Some x) = signed x

-- min, max, sum, and what follows
abbrev pub held_fields : W.Point → List (List ℕ) → List (List ℕ)
held_fields p rest = extreme_field p.min ∷ extreme_field p.max ∷ signed p.sum ∷ rest

-- from the scale on, of the exponential kind; behind the count, of the explicit kind
abbrev pub exponential_fields : W.Point → List ℕ → List ℕ → List (List ℕ)
exponential_fields p xs ys =
    integer_field (scale_shown p.figures)
    ∷ held_fields p (row_field (offset_shown false p.figures) xs ∷ row_field (offset_shown true p.figures) ys ∷ [])

abbrev pub explicit_fields : W.Point → List ℕ → List Float → List (List ℕ)
explicit_fields p xs bounds = held_fields p (listed (map decimal xs) ∷ listed (map float_field bounds) ∷ [])

-- the fields behind the set
abbrev pub figures_fields : Figures → Stored → List (List ℕ)
figures_fields (Exponential c) x = decimal c.count ∷ decimal c.zeros ∷ exponential_fields x.point x.pos x.neg
figures_fields (Explicit n) x = decimal n ∷ explicit_fields x.point x.pos x.bounds

-- the line of a point, with its set
unfoldable pub point_line : Set → Stored → List ℕ
point_line s x = line ((letter x.point.figures ∷ []) ∷ set_field s ∷ figures_fields x.point.figures x)

-- ---- the points of a list

-- the line of what was found at a cursor, and the cursor behind it; where no point of i64 values lies there, by `printing`. Nothing is printed where
-- there is no row of its set
abbrev pub found_line : Cursor → Option Entry → Output → List Float → List ℕ
found_line at None o bounds = F.line_at Point at o bounds
found_line at (Some e) o bounds =
    pick (ltb at.place (length o.sets)) (point_line (take 8 (set_of (get_or o.sets at.place []))) (stored_at at e bounds o)) []

abbrev pub found_next : Cursor → Option Entry → Output → Cursor
found_next at None o = F.next_at at o
found_next at (Some e) o = pick (ltb at.place (length o.sets)) e.next at

abbrev pub found : Cursor → Output → Option Entry
found at o = point_at at o.words (length o.pos) (length o.neg)

-- the same of the point at a cursor
unfoldable pub line_at : Cursor → Output → List Float → List ℕ
line_at at o bounds = found_line at (found at o) o bounds

unfoldable pub next_at : Cursor → Output → Cursor
next_at at o = found_next at (found at o) o

-- ---- a collection: its head, and the lines of the first points of the list
unfoldable pub collection_lines : ℕ → ℕ → ℕ → Output → List Float → List ℕ
collection_lines start time points o bounds =
    collection_head start time points ++ lines_by (λ at. line_at at o bounds) (λ at. next_at at o) points (record { place = 0; pos = 0; neg = 0 })
