-- A set and its point as words: 9 of the set, 12 of the point, then its bounds and its counts, each filled up to whole records (docs/SHEET.md).
-- Assumes nothing.
use Rattle.std.specs.Prelude.{ℕ, zero, suc, ◌+◌, Bool, true, ◌&&◌, ◌||◌, List, [], ◌∷◌, ◌++◌, map, leb, eqb, length, take, drop}
use Rattle.std.specs.Float.{binary64}
use Rattle.std.specs.Float.Ieee.{of_bits}
use Rattle.floats.specs.Answers.{bits_of}
use Rattle.point.specs.Handing.{Stored, stored_in, agrees_alone}
use Rattle.point.specs.declared.Figures.{Figures}
use Rattle.point.specs.declared.Figures.TheVariants.{Exponential, Explicit}
use Rattle.tally.specs.Sets.{Set, cmp}
use Rattle.sets.specs.Rows.{set_of, row_of, below, soundb}
use Rattle.listing.specs.Words.{words_of, point_in, bounds_in}
use Rattle.listing.specs.Listed.{pos_len, neg_len}
use Rattle.listing.specs.declared.Span.{Span}
use Rattle.records.specs.Records.{padded, width}

-- a set and its point, with the point's bounds and the counts of both rows
abbrev pub Entry : Type 0
Entry = Set × Stored

-- ---- written

-- the bounds follow their point: in a sheet they start at 0
abbrev pub own_span : Stored → Span
own_span x = record { start = 0; len = length x.bounds }

-- the twelve words of docs/LIST.md
abbrev pub head_of : Stored → List ℕ
head_of x = words_of x.point (own_span x)

unfoldable pub entry_words : Entry → List ℕ
entry_words e = row_of e.0 ++ (head_of e.1 ++ (padded (map bits_of e.1.bounds) ++ padded (e.1.pos ++ e.1.neg)))

abbrev pub entries_words : List Entry → List ℕ
entries_words [] = []
entries_words (e ∷ es) = entry_words e ++ entries_words es

-- ---- read, of words that begin with an entry

-- the twelve words of the point
abbrev pub head_in : List ℕ → List ℕ
head_in l = take 12 (drop 9 l)

-- how many counts of either row they say
abbrev pub pos_in : List ℕ → ℕ
pos_in w = pos_len (point_in w).figures (bounds_in w)

abbrev pub neg_in : List ℕ → ℕ
neg_in w = neg_len (point_in w).figures

-- the point that they are, with bounds and counts out of the words behind them
unfoldable pub stored_from : List ℕ → List ℕ → Stored
stored_from w r =
    let c = drop (width (bounds_in w).len) r in
    stored_in (point_in w) (map (of_bits binary64) (take (bounds_in w).len r)) (take (pos_in w) c) (take (neg_in w) (drop (pos_in w) c))

unfoldable pub entry_of : List ℕ → Entry
entry_of l = (set_of (take 9 l), stored_from (head_in l) (drop 21 l))

-- how many words there are of so many bounds and counts, and of what the twelve words say
abbrev pub words_for : ℕ → ℕ → ℕ
words_for bounds counts = 21 + (width bounds + width counts)

unfoldable pub entry_len : List ℕ → ℕ
entry_len w = words_for (bounds_in w).len (pos_in w + neg_in w)

abbrev pub entries_of : ℕ → List ℕ → List Entry
entries_of zero l = []
entries_of (suc n) l = entry_of l ∷ entries_of n (drop (entry_len (head_in l)) l)

-- ---- what is written

-- "ill-formed (the empty set is allowed)": else 1 to 8 attributes with rising keys
unfoldable pub set_fine : Set → Bool
set_fine s = eqb (length s) 0 || (leb (length s) 8 && soundb (row_of s))

-- an exponential point has no bounds
abbrev pub bounds_fine : Figures → ℕ → Bool
bounds_fine (Exponential c) n = eqb n 0
bounds_fine (Explicit m) n = true

-- the bounds and counts are those that the point says
unfoldable pub exact : Stored → Bool
exact x =
    bounds_fine x.point.figures (length x.bounds)
    && (eqb (length x.pos) (pos_len x.point.figures (own_span x)) && eqb (length x.neg) (neg_len x.point.figures))

-- "points that agree (under size 160 and scale 10)"
unfoldable pub entry_fine : Entry → Bool
entry_fine e = set_fine e.0 && (exact e.1 && agrees_alone e.1)

-- else "sets not strictly ascending"
abbrev pub ascending : List Entry → Bool
ascending [] = true
ascending (e ∷ []) = true
ascending (e ∷ f ∷ es) = below (cmp e.0 f.0) && ascending (f ∷ es)
