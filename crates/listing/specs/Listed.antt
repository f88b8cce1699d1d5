-- A list of points in lent output: sets' rows, points' words, and their counts packed one after another in two stores. Assumes nothing.
-- docs/LIST.md tells it in words: one form for collections, merges and sheets.
use Rattle.std.specs.Prelude.{ℕ, zero, suc, ◌+◌, ◌-◌, Bool, true, false, ◌&&◌, List, [], ◌∷◌, ◌++◌, leb, length, get_or, set, take, drop, Float, Some, None}
use Rattle.std.specs.Prelude as Std
use Rattle.std.proofs.Math.Option.{Option, none, some, map}
use Rattle.laws.specs.Over.{over}
use Rattle.laws.specs.Pick.{pick}
use Rattle.tally.specs.Sets.{Set}
use Rattle.sets.specs.Rows.{set_of}
use Rattle.point.specs.Handing.{Stored, stored_in}
use Rattle.point.specs.declared.Point.{Point}
use Rattle.point.specs.declared.Figures.{Figures}
use Rattle.point.specs.declared.Figures.TheVariants.{Exponential, Explicit}
use Rattle.listing.specs.Words.{words_of, point_in, bounds_in, is_point}
use Rattle.listing.specs.declared.Cursor.{Cursor}
use Rattle.listing.specs.declared.Entry.{Entry}
use Rattle.listing.specs.declared.Span.{Span}

pub record Output : Type 0 where
  pub sets : List (List ℕ)
  pub words : List (List ℕ)
  pub pos : List ℕ
  pub neg : List ℕ

-- as a contract writes it: the four lent slices, at entry or at exit
abbrev pub output : List (List ℕ) → List (List ℕ) → List ℕ → List ℕ → Output
output sets words pos neg = record { sets = sets; words = words; pos = pos; neg = neg }

-- "No bounds, no buckets": the buckets of n bounds
abbrev pub buckets_of : ℕ → ℕ
buckets_of zero = 0
buckets_of (suc n) = suc (suc n)

-- how many counts a point has in either store: its two rows, or its buckets in the first
abbrev pub pos_len : Figures → Span → ℕ
pos_len (Exponential c) b = c.pos.len
pos_len (Explicit n) b = buckets_of b.len

abbrev pub neg_len : Figures → ℕ
neg_len (Exponential c) = c.neg.len
neg_len (Explicit n) = 0

-- the cursor behind a point
abbrev pub behind : Cursor → Figures → Span → Cursor
behind at f b = record { place = at.place + 1; pos = at.pos + pos_len f b; neg = at.neg + neg_len f }

-- ---- one point put at a cursor

-- ys over the list from place a on
unfoldable pub over_at : {A : Type 0} → ℕ → List A → List A → List A
over_at a ys xs = take a xs ++ over ys (drop a xs)

-- a set's row, its point, where the point's bounds lie, and its counts, which are the first ones of two lists
unfoldable pub put_at : Cursor → List ℕ → Point → Span → List ℕ → List ℕ → Output → Output
put_at at row p b xs ys o =
    record {
      sets = set o.sets at.place row;
      words = set o.words at.place (words_of p b);
      pos = over_at at.pos (take (pos_len p.figures b) xs) o.pos;
      neg = over_at at.neg (take (neg_len p.figures) ys) o.neg;
    }

-- ---- the point at a cursor

-- whether a point's counts lie within stores of so many
abbrev pub within : Cursor → Figures → Span → ℕ → ℕ → Bool
within at f b pos neg = leb (at.pos + pos_len f b) pos && leb (at.neg + neg_len f) neg

-- that of twelve words: none where they are no point's, or where its counts are not there
unfoldable pub entry_in : Cursor → List ℕ → ℕ → ℕ → Std.Option Entry
entry_in at w pos neg =
    pick (is_point w && within at (point_in w).figures (bounds_in w) pos neg)
    (Some (record { point = point_in w; bounds = bounds_in w; next = behind at (point_in w).figures (bounds_in w) }))
    None

unfoldable pub point_at : Cursor → List (List ℕ) → ℕ → ℕ → Std.Option Entry
point_at at words pos neg =
    pick (leb (length words) at.place) None (entry_in at (get_or words at.place []) pos neg)

-- the counts of a sign between two cursors
abbrev pub row_at : Cursor → Cursor → Bool → List ℕ → List ℕ → List ℕ
row_at at next negative pos neg = pick negative (take (next.neg - at.neg) (drop at.neg neg)) (take (next.pos - at.pos) (drop at.pos pos))

-- as merging takes it: the point at a cursor with its bounds, of a store beside the list, and its counts
abbrev pub bounds_at : Span → List Float → List Float
bounds_at b bounds = take b.len (drop b.start bounds)

abbrev pub stored_at : Cursor → Entry → List Float → Output → Stored
stored_at at e bounds o =
    stored_in e.point (bounds_at e.bounds bounds) (row_at at e.next false o.pos o.neg) (row_at at e.next true o.pos o.neg)

-- as `listing::read` finds it: the point at a cursor and where the next one lies (`point_at`), its bounds (`bounds_at`, of a store beside the list)
-- and its counts (`row_at`); so it is handed to `point::merge`
abbrev pub found_at : List Float → Cursor → Output → Option (Stored × Cursor)
found_at bounds at o =
    elim (point_at at o.words (length o.pos) (length o.neg)) [ None ↦ none | Some e ↦ some (stored_at at e bounds o, e.next) ]

-- THE READER: n points of a list from a cursor on, each with its set, the next one at the cursor that the one before gives; none unless all n are found
abbrev pub read_from : {A : Type 0} → (Cursor → Output → Option (A × Cursor)) → ℕ → Cursor → Output → Option (List (Set × A))
read_from found zero at o = some []
read_from found (suc n) at o =
    elim (found at o) [ none ↦ none | some x ↦ map (λ l. (set_of (get_or o.sets at.place []), x.0) ∷ l) (read_from found n x.1 o) ]
