-- POINTS OF LISTS, recorded and merged by code, and their means: each theorem as a type. A stored point is a point with its bounds and the
-- lent rows that hold its counts (`Stored`); it reads as a point of document 01 (`handed_in`). Assumes nothing.
use Rattle.std.specs.Prelude.{ℕ, ◌+◌, ◌*◌, ◌^◌, ◌≤◌, ◌<◌, ◌≡◌, Bool, true, ℤ, pos, nat_abs, ◌-ℤ◌, ◌*ℤ◌, length, get_or, drop, replicate, Float, Some}
use mathlib.Core.List.{List, [], ◌++◌, map, foldl, Permᴰ}
use Rattle.laws.specs.Lists.{All}
use Rattle.laws.specs.Said.{success}
use Rattle.laws.specs.Trees.{Tree, leaves}
use Rattle.index.specs.Bins.{finest}
use Rattle.floats.specs.Grid.{Whole, is_whole, Gridded}
use Rattle.floats.specs.Starts.{FiniteF64}
use Rattle.integers.specs.Totals.{total}
use Rattle.points.specs.Explicit.{bounds_pass, bucket_count}
use Rattle.points.specs.Counts.{exponential, explicit, size_passes, Settings, settings_of, count_of, resized}
use Rattle.points.specs.Number.{Number}
use Rattle.points.specs.Any.{merge_handed, Same, with_sum, Of, Stands}
use Rattle.points.specs.Coded.{Coded, PointOf}
use Rattle.laws.specs.Over.{over}
use Rattle.exponential.specs.declared.Head as EH
use Rattle.exponential.specs.Series as E
use Rattle.exponential.specs.Runs.{fresh_head, next}
use Rattle.explicit.specs.declared.Head as XH
use Rattle.explicit.specs.Series as X
use Rattle.point.specs.Handing.{Stored, stored_in, exponential_point, explicit_point, merging}
use Rattle.point.specs.Lists.{real_points, Configured, Long}
use Rattle.whole_point.specs.Lists.{whole_points}
use Rattle.listing.specs.Listed.{Output, stored_at}
use Rattle.listing.specs.declared.Cursor.{Cursor}
use Rattle.listing.specs.declared.Entry.{Entry}
use Rattle.whole_point.specs.Handing as W
use Rattle.whole_listing.specs.Listed as WL
use Rattle.whole_listing.specs.declared.Entry as WE
use Rattle.pooling.specs.Lists.{Source, whole_at, integer_at, has_place, put_merged, put_merged_whole, pooled_at, Holds, HoldsWhole}
use Rattle.mean.specs.Rule.{half}
use Rattle.mean.specs.Rounding.{hundredths}
use Rattle.mean.specs.Mean.{mean_in}
use Rattle.mean.specs.Values.{mean_of_all}
use Rattle.merging.specs.Merged.{Good, AtTop, Groups}
use Rattle.laws.specs.Counting.{most_count, sum}

-- ---- RECORDING

-- "Point of a list of values": finite values recorded one by one from the fresh series, in rows that suffice, are all accepted, and read as
-- document 01's point of the list. They are recorded by the definition that the contract of `record` cites.
abbrev pub ExponentialRecords : Type 0
ExponentialRecords =
    (size top : ℕ) → size_passes size ≡ true → top ≤ finest → (xs ys : List ℕ) → size ≤ length xs → size ≤ length ys
    → (vs : List Float) → All FiniteF64 vs → length vs < 2 ^ 64 → (bounds : List Float) (extremes sums : Bool)
    → let z = foldl (λ o v. next o.answer (λ h. E.recording size top h o.pos o.neg v) o) (E.outcome (success (fresh_head top)) xs ys) vs in
    (h : EH.Head) × (z.answer ≡ success h)
    × PointOf real_points (settings_of (exponential size top) extremes sums) vs (stored_in (exponential_point h extremes sums) bounds z.pos z.neg)

abbrev pub ExplicitRecords : Type 0
ExplicitRecords =
    (bounds : List Float) → bounds_pass bounds ≡ true → (xs : List ℕ) → bucket_count bounds ≤ length xs
    → (vs : List Float) → All FiniteF64 vs → length vs < 2 ^ 64 → (ys : List ℕ) (extremes sums : Bool)
    → let z = foldl (λ o v. next o.answer (λ h. X.recording bounds h o.counts v) o) (X.outcome (success X.fresh_head) (over (replicate (bucket_count bounds) 0) xs)) vs in
    (h : XH.Head) × (z.answer ≡ success h)
    × PointOf real_points (settings_of (explicit bounds) extremes sums) vs (stored_in (explicit_point h extremes sums) bounds z.counts ys)

-- ---- MERGING BY CODE, of points of one number: `real_points` by `point::merge`, `whole_points` (i64, request L6) by `whole_point::merge`

module _ {N : Number} (C : Coded N) where
  -- what an accepted merge leaves in the lent rows is in shape, and reads as the merge of what its arguments read as. (Its numbers are those of what they
  -- read as by its contract.)
  abbrev pub MergeAnswers : Type 0
  MergeAnswers =
      (size : ℕ) (x y z : C.Stored) (us vs : List ℕ) → C.merging size x y us vs ≡ success z
      → (C.handed_in z ≡ merge_handed N size (C.handed_in x) (C.handed_in y)) × (C.in_shape z ≡ true)

  -- the points of two lists merge, in rows with room for any list, to a point that stands for the lists joined: "exactly the scale, offsets, all
  -- counts, minimum and maximum (a zero's sign aside) .. The sum too, if ..". `Within` is nothing over f64; over i64 "the magnitudes .. total at most
  -- 2^63 - 1"
  abbrev pub ListsMerge : Type 0
  ListsMerge =
      (s : Settings) → Configured s.kind → (size : ℕ) → resized size s.kind ≡ s.kind → (v w : List N.Value) → length v + length w < 2 ^ 64
      → N.Within (v ++ w) → (x y : C.Stored) → PointOf C s v x → PointOf C s w y → (us vs : List ℕ) → Long s.kind us vs
      → (z : C.Stored) × (C.merging size x y us vs ≡ success z) × Stands N s (C.handed_in z) (v ++ w)

  -- Request L14: "merge to the same scale, rows, counts and extremes under every bracketing and order, signs of zero aside". Of points of one kind,
  -- bounds and switch, whatever rows were lent to each merge, if all were accepted
  abbrev pub AnyGrouping : Type 0
  AnyGrouping =
      (size : ℕ) (s : Settings) (t u : Tree C.Stored) (x y : C.Stored) → Permᴰ (leaves t) (leaves u) → All (λ l. Of N s (C.handed_in l)) (leaves t)
      → Groups C size t x → Groups C size u y → Same N (C.handed_in x) (C.handed_in y)

  -- and all are accepted, of points that agree, under a max_size that passes number 1: "The premise is that the lent output suffices .. that the counts
  -- together stay below 2^64 and, for i64, that the sums' magnitudes total at most 2^63 - 1"
  abbrev pub EveryGrouping : Type 0
  EveryGrouping =
      (size : ℕ) (s : Settings) → Configured (resized size s.kind) → (us vs : List ℕ) → Long (resized size s.kind) us vs
      → (t u : Tree C.Stored) → Permᴰ (leaves t) (leaves u) → All (Good C size s) (leaves t)
      → sum (λ x. count_of (C.handed_in x).counts) (leaves t) ≤ most_count → N.Within (map (λ x. (C.handed_in x).sum) (leaves t))
      → (x : C.Stored) × (y : C.Stored) × Groups C size t x × Groups C size u y × Same N (C.handed_in x) (C.handed_in y)

  -- Request L4: "Merging with such a point keeps the other's extremes", of any point of count 0, merged before another or after it
  abbrev pub EmptyMerges : Type 0
  EmptyMerges =
      (size : ℕ) (x y z : C.Stored) (us vs : List ℕ) → C.merging size x y us vs ≡ success z
      → (count_of (C.handed_in x).counts ≡ 0 → ((C.handed_in z).min ≡ (C.handed_in y).min) × ((C.handed_in z).max ≡ (C.handed_in y).max))
      × (count_of (C.handed_in y).counts ≡ 0 → ((C.handed_in z).min ≡ (C.handed_in x).min) × ((C.handed_in z).max ≡ (C.handed_in x).max))

  -- a fresh point is one that agrees, so that merges take it (`EveryGrouping`), under any max_size that passes number 1
  abbrev pub FreshAgrees : Type 0
  FreshAgrees = (size : ℕ) (s : Settings) → Configured (resized size s.kind) → (f : C.Stored) → PointOf C s [] f → Good C size s f

  -- "A fresh point at the greatest allowed scale changes none of these in the other", before it or after it: all is as it was, and the fresh point's
  -- sum, 0, is added to the other's once
  abbrev pub FreshMerges : Type 0
  FreshMerges =
      (size : ℕ) (s : Settings) → AtTop s.kind → (f y z : C.Stored) → PointOf C s [] f → Good C size s y → (us vs : List ℕ)
      → (C.merging size f y us vs ≡ success z → C.handed_in z ≡ with_sum N (N.add N.zero (C.handed_in y).sum) (C.handed_in y))
      × (C.merging size y f us vs ≡ success z → C.handed_in z ≡ with_sum N (N.add (C.handed_in y).sum N.zero) (C.handed_in y))

-- "Sums are included for i64": by whatever grouping, what is left has the exact total of the sums
abbrev pub WholeSums : Type 0
WholeSums =
    (size : ℕ) (t : Tree whole_points.Stored) (x : whole_points.Stored) → Groups whole_points size t x
    → (whole_points.handed_in x).sum ≡ total (map (λ l. (whole_points.handed_in l).sum) (leaves t))

-- "Sets are not compared; the result has the first's": where points lie at a and at b, and there is a place, `pooling::merge_at` answers as
-- `point::merge` of the two points that the lists hold, refused with nothing changed; and the output then holds the merged point at the cursor,
-- with the first's set and bounds
abbrev pub ListedMerge : Type 0
ListedMerge =
    (size : ℕ) (a : Cursor) (x : Source) (b : Cursor) (y : Source) (at : Cursor) (o : Output) (e f : Entry)
    → a.place < length x.list.sets → whole_at a x ≡ Some e → whole_at b y ≡ Some f → has_place at o ≡ true
    → let m = (merging size (stored_at a e x.bounds x.list) (stored_at b f y.bounds y.list) (drop at.pos o.pos) (drop at.neg o.neg)).answer in
    let row = get_or x.list.sets a.place [] in
    (pooled_at size a x b y at o ≡ put_merged at row e.bounds o m)
    × ((z : Stored) → m ≡ success z → Holds at row e.bounds x.bounds z (pooled_at size a x b y at o).output)

-- the same of two points of i64 values, as `whole_point::merge` (request L6)
abbrev pub ListedWholesMerge : Type 0
ListedWholesMerge =
    (size : ℕ) (a : Cursor) (x : Source) (b : Cursor) (y : Source) (at : Cursor) (o : Output) (e f : WE.Entry)
    → a.place < length x.list.sets → integer_at a x ≡ Some e → integer_at b y ≡ Some f → has_place at o ≡ true
    → let m = (W.merging size (WL.stored_at a e x.bounds x.list) (WL.stored_at b f y.bounds y.list) (drop at.pos o.pos) (drop at.neg o.neg)).answer in
    let row = get_or x.list.sets a.place [] in
    (pooled_at size a x b y at o ≡ put_merged_whole at row e.bounds o m)
    × ((z : W.Stored) → m ≡ success z → HoldsWhole at row e.bounds x.bounds z (pooled_at size a x b y at o).output)

-- ---- THE MEAN IN HUNDREDTHS (request L2)

-- document 01's point of values that are whole 1/1024ths, magnitudes totalling at most 2^43, has their mean; with no values it is 13
abbrev pub PointMean : Type 0
PointMean =
    (s : Settings) → Configured s.kind → (vs : List Float) (x : Stored) → PointOf real_points s vs x → Gridded vs → mean_in x ≡ mean_of_all s.sums vs

-- "rounded to the nearest whole number": of a sum of z / 1024 over a count, what is answered times 1024 * count is off 100 * z by no more
-- than a half of 1024 * count. With the next theorem it leaves one number
abbrev pub NearestMean : Type 0
NearestMean = (z : ℤ) (count : ℕ) → 0 < count → nat_abs (hundredths z count *ℤ pos (count * 1024) -ℤ z *ℤ pos 100) * 2 ≤ count * 1024

-- and where the mean's magnitude is k and a half hundredths, it is the rule's
abbrev pub HalfMean : Type 0
HalfMean =
    (z : ℤ) (count k : ℕ) → 0 < count → 2 * (nat_abs z * 100) ≡ 2 * (k * (count * 1024)) + count * 1024 → nat_abs (hundredths z count) ≡ half k

-- what number 14 tests is demand 3's grid: a whole number of 1/1024
abbrev pub WholeTest : Type 0
WholeTest = (x : Float) → (is_whole x ≡ true → Whole x) × (Whole x → is_whole x ≡ true)
