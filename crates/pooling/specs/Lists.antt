-- Two points of lists merged into a third list (docs/LIST.md), of f64 values or of i64 values. Assumes nothing.
-- Document 01: "Sets are not compared; the result has the first's."
use Rattle.std.specs.Prelude.{ℕ, ◌+◌, ◌≡◌, Bool, ◌&&◌, List, [], leb, eqb, length, get_or, take, drop, Float, Option, Some, None}
use Rattle.laws.specs.Pick.{pick}
use Rattle.laws.specs.Said.{Said, refusal, success}
use Rattle.point.specs.Handing.{Stored, stored_in, handed_in, refusal_before, merging}
use Rattle.listing.specs.Listed.{Output, output, pos_len, neg_len, behind, put_at, point_at, stored_at}
use Rattle.listing.specs.declared.Cursor.{Cursor}
use Rattle.listing.specs.declared.Entry.{Entry}
use Rattle.listing.specs.declared.Span.{Span}
use Rattle.whole_point.specs.Handing as W
use Rattle.whole_point.specs.Handing.{mixed_number}
use Rattle.whole_listing.specs.Listed as WL
use Rattle.whole_listing.specs.declared.Entry as WE

-- ---- a list that is merged from

-- its four stores, and the store of bounds beside it
pub record Source : Type 0 where
  pub list : Output
  pub bounds : List Float

-- as a contract writes it; of the second list no sets are lent: "Sets are not compared"
abbrev pub source : List (List ℕ) → List (List ℕ) → List ℕ → List ℕ → List Float → Source
source sets words pos neg bounds = record { list = output sets words pos neg; bounds = bounds }

abbrev pub nameless : List (List ℕ) → List ℕ → List ℕ → List Float → Source
nameless words pos neg bounds = record { list = record { sets = []; words = words; pos = pos; neg = neg }; bounds = bounds }

-- the point of f64 values at a cursor; none also where the bounds that it names are not all lent: its buckets would be judged by fewer bounds than
-- it has
abbrev pub bounded : ℕ → Option Entry → Option Entry
bounded n None = None
bounded n (Some e) = pick (leb (e.bounds.start + e.bounds.len) n) (Some e) None

abbrev pub whole_at : Cursor → Source → Option Entry
whole_at at x = bounded (length x.bounds) (point_at at x.list.words (length x.list.pos) (length x.list.neg))

-- the point of i64 values there, likewise
abbrev pub bounded_integer : ℕ → Option WE.Entry → Option WE.Entry
bounded_integer n None = None
bounded_integer n (Some e) = pick (leb (e.bounds.start + e.bounds.len) n) (Some e) None

abbrev pub integer_at : Cursor → Source → Option WE.Entry
integer_at at x = bounded_integer (length x.bounds) (WL.point_at at x.list.words (length x.list.pos) (length x.list.neg))

-- what lies at a cursor: no point, a point of f64 values or one of i64 values; never both (the law `never_both`)
pub data Seen : Type 0 where
  nothing : Seen
  real : Entry → Seen
  whole : WE.Entry → Seen

abbrev pub seen : Option Entry → Option WE.Entry → Seen
seen None None = nothing
seen None (Some e) = whole e
seen (Some e) f = real e

-- ---- the call

-- the answer in document 01's words, with the output afterwards
pub record Outcome : Type 0 where
  pub answer : Said Cursor
  pub output : Output

abbrev pub ends : Said Cursor → Output → Outcome
ends r o = record { answer = r; output = o }

-- a place for the set's row and the words, and offsets within the counts
abbrev pub placed : Cursor → ℕ → ℕ → ℕ → ℕ → Bool
placed at sets words pos neg = leb (at.place + 1) sets && (leb (at.place + 1) words && (leb at.pos pos && leb at.neg neg))

abbrev pub has_place : Cursor → Output → Bool
has_place at o = placed at (length o.sets) (length o.words) (length o.pos) (length o.neg)

-- "Every refusal changes nothing"; else the merged point is put at the cursor with a row and a span of bounds, and the next cursor answered
abbrev pub put_merged : Cursor → List ℕ → Span → Output → Said Stored → Outcome
put_merged at row b o (refusal n) = ends (refusal n) o
put_merged at row b o (success z) =
    ends (success (behind at z.point.figures b)) (put_at at row z.point b z.pos z.neg o)

-- two points merged into the counts from the cursor on. "Merging: 1, 8, 11, 9, 10": without a place it is 10 unless a number comes before
unfoldable pub pooled : ℕ → List ℕ → Span → Stored → Stored → Cursor → Output → Outcome
pooled size row b x y at o =
    let n = refusal_before size x y in
    pick (has_place at o)
    (put_merged at row b o (merging size x y (drop at.pos o.pos) (drop at.neg o.neg)).answer)
    (ends (refusal (pick (eqb n 0) 10 n)) o)

-- the same of points of i64 values: "Merging: 1, 8, 11, 9, 16, 10"
abbrev pub put_merged_whole : Cursor → List ℕ → Span → Output → Said W.Stored → Outcome
put_merged_whole at row b o (refusal n) = ends (refusal n) o
put_merged_whole at row b o (success z) =
    ends (success (behind at z.point.figures b)) (WL.put_at at row z.point b z.pos z.neg o)

unfoldable pub pooled_wholes : ℕ → List ℕ → Span → W.Stored → W.Stored → Cursor → Output → Outcome
pooled_wholes size row b x y at o =
    let n = W.refusal_before size x y in
    pick (has_place at o)
    (put_merged_whole at row b o (W.merging size x y (drop at.pos o.pos) (drop at.neg o.neg)).answer)
    (ends (refusal (pick (eqb n 0) 10 n)) o)

-- 8 where no point lies. Else with a set's row and the first's bounds; "An i64 point gives 11 merged with an f64 one", after 1 and 8
abbrev pub pooled_seen : ℕ → List ℕ → Cursor → Source → Cursor → Source → Cursor → Output → Seen → Seen → Outcome
pooled_seen size row a x b y at o nothing f = ends (refusal 8) o
pooled_seen size row a x b y at o (real e) nothing = ends (refusal 8) o
pooled_seen size row a x b y at o (real e) (real f) =
    pooled size row e.bounds (stored_at a e x.bounds x.list) (stored_at b f y.bounds y.list) at o
pooled_seen size row a x b y at o (real e) (whole f) =
    ends (refusal (mixed_number size (WL.stored_at b f y.bounds y.list) (stored_at a e x.bounds x.list))) o
pooled_seen size row a x b y at o (whole e) nothing = ends (refusal 8) o
pooled_seen size row a x b y at o (whole e) (real f) =
    ends (refusal (mixed_number size (WL.stored_at a e x.bounds x.list) (stored_at b f y.bounds y.list))) o
pooled_seen size row a x b y at o (whole e) (whole f) =
    pooled_wholes size row e.bounds (WL.stored_at a e x.bounds x.list) (WL.stored_at b f y.bounds y.list) at o

-- "the result has the first's" set; 8 also where no set's row lies at the first's place
unfoldable pub pooled_at : ℕ → Cursor → Source → Cursor → Source → Cursor → Output → Outcome
pooled_at size a x b y at o =
    pick (leb (length x.list.sets) a.place) (ends (refusal 8) o)
    (pooled_seen size (get_or x.list.sets a.place []) a x b y at o (seen (whole_at a x) (integer_at a x)) (seen (whole_at b y) (integer_at b y)))

-- ---- the merged point in the output

-- a stored point listed at a cursor with a set's row and a span of bounds
abbrev pub entry_of : Cursor → Span → Stored → Entry
entry_of at b z = record { point = z.point; bounds = b; next = behind at z.point.figures b }

-- the output holds z there: its set's row, its point, and it reads as z
pub record Holds (at : Cursor) (row : List ℕ) (b : Span) (bounds : List Float) (z : Stored) (o : Output) : Type 0 where
  pub set : get_or o.sets at.place [] ≡ row
  pub point : point_at at o.words (length o.pos) (length o.neg) ≡ Some (entry_of at b z)
  pub stored : stored_at at (entry_of at b z) bounds o
      ≡ stored_in z.point z.bounds (take (pos_len z.point.figures b) z.pos) (take (neg_len z.point.figures) z.neg)
  pub reads : handed_in (stored_at at (entry_of at b z) bounds o) ≡ handed_in z

-- the same of a point of i64 values
abbrev pub entry_of_whole : Cursor → Span → W.Stored → WE.Entry
entry_of_whole at b z = record { point = z.point; bounds = b; next = behind at z.point.figures b }

pub record HoldsWhole (at : Cursor) (row : List ℕ) (b : Span) (bounds : List Float) (z : W.Stored) (o : Output) : Type 0 where
  pub set : get_or o.sets at.place [] ≡ row
  pub point : WL.point_at at o.words (length o.pos) (length o.neg) ≡ Some (entry_of_whole at b z)
  pub stored : WL.stored_at at (entry_of_whole at b z) bounds o
      ≡ W.stored_in z.point z.bounds (take (pos_len z.point.figures b) z.pos) (take (neg_len z.point.figures) z.neg)
  pub reads : W.handed_in (WL.stored_at at (entry_of_whole at b z) bounds o) ≡ W.handed_in z
