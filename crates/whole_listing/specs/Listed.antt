-- Points of i64 values in a list in lent output. The list's form, its cursors and its counts are those of crate `listing`; only a point's words are
-- its own. Assumes nothing.
use Rattle.std.specs.Prelude.{ℕ, Bool, true, false, ◌&&◌, List, [], leb, length, get_or, set, take, Float, Some, None}
use Rattle.std.specs.Prelude as Std
use Rattle.std.proofs.Math.Option.{Option, none, some}
use Rattle.laws.specs.Pick.{pick}
use Rattle.whole_point.specs.Handing.{Stored, stored_in}
use Rattle.whole_point.specs.declared.Point.{Point}
use Rattle.listing.specs.Listed.{Output, pos_len, neg_len, behind, over_at, within, row_at, bounds_at}
use Rattle.listing.specs.declared.Cursor.{Cursor}
use Rattle.listing.specs.declared.Span.{Span}
use Rattle.whole_listing.specs.Words.{words_of, point_in, bounds_in, is_point}
use Rattle.whole_listing.specs.declared.Entry.{Entry}

-- ---- one point put at a cursor: a set's row, its point, where the point's bounds lie, and its counts, which are the first ones of two lists
unfoldable pub put_at : Cursor → List ℕ → Point → Span → List ℕ → List ℕ → Output → Output
put_at at row p b xs ys o =
    record {
      sets = set o.sets at.place row;
      words = set o.words at.place (words_of p b);
      pos = over_at at.pos (take (pos_len p.figures b) xs) o.pos;
      neg = over_at at.neg (take (neg_len p.figures) ys) o.neg;
    }

-- ---- the point at a cursor

-- that of twelve words: none where they are no i64 point's, or where its counts are not there
unfoldable pub entry_in : Cursor → List ℕ → ℕ → ℕ → Std.Option Entry
entry_in at w pos neg =
    pick (is_point w && within at (point_in w).figures (bounds_in w) pos neg)
    (Some (record { point = point_in w; bounds = bounds_in w; next = behind at (point_in w).figures (bounds_in w) }))
    None

unfoldable pub point_at : Cursor → List (List ℕ) → ℕ → ℕ → Std.Option Entry
point_at at words pos neg =
    pick (leb (length words) at.place) None (entry_in at (get_or words at.place []) pos neg)

-- whether the words at a cursor have a kind that no f64 point has, 2 or more: a reader of points of either number looks there first
unfoldable pub is_whole : Cursor → List (List ℕ) → Bool
is_whole at words = leb 2 (get_or (get_or words at.place []) 0 0)

-- as merging takes it: the point at a cursor with its bounds, of a store beside the list, and its counts
abbrev pub stored_at : Cursor → Entry → List Float → Output → Stored
stored_at at e bounds o =
    stored_in e.point (bounds_at e.bounds bounds) (row_at at e.next false o.pos o.neg) (row_at at e.next true o.pos o.neg)

-- as it is found: the point at a cursor and where the next one lies (`whole_listing::read::point_at`), its bounds and its counts (`listing::read`'s
-- `bounds_at` and `row_at`); so it is handed to `whole_point::merge`
abbrev pub found_at : List Float → Cursor → Output → Option (Stored × Cursor)
found_at bounds at o =
    elim (point_at at o.words (length o.pos) (length o.neg)) [ None ↦ none | Some e ↦ some (stored_at at e bounds o, e.next) ]
