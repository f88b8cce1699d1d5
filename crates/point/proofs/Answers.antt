-- What an accepted merge leaves is the merge of the points read, in shape. Assumes nothing.
use Prim.Native.Nat.{ℕ, ◌+◌, ◌-◌, ◌≤◌}
use mathlib.Core.Path.{◌≡◌, refl, ap, sym, ◌∙◌}
use mathlib.Core.Bool.{Bool, true, false, ◌&&◌}
use mathlib.Core.List.{List}
use native.Mathlib.Omega.{arith}
use lib.Dec.{leb}
use lib.ListN.{length, take, drop, length-append}
use borrow.Author.Tests.{leb-true, le-leb, eq-eqb}
use Rattle.laws.specs.Pick.{pick}
use Rattle.laws.specs.Said.{refusal, success}
use Rattle.laws.proofs.Bools.{and_right}
use Rattle.index.specs.Bins.{finest, lowest_bin}
use Rattle.floats.specs.Starts.{zero_float}
use Rattle.rows.specs.Rows.{over}
use Rattle.rows.proofs.Laws.{take-over}
use Rattle.points.specs.Explicit.{bucket_count, added, merge_buckets}
use Rattle.points.specs.Figures as F
use Rattle.points.specs.Figures.{Kind, exponential, explicit, most_size, Settings, exponential_counts, explicit_counts}
use Rattle.points.specs.Handed.{Handed, merge_counts, merge_handed, pos_of, neg_of}
use Rattle.points.specs.Number.{Number}
use Rattle.points.specs.Any
use Rattle.points.proofs.Kept.{merge-agrees}
use Rattle.points.proofs.Explicit.{buckets-say, merge-buckets-ok}
use Rattle.points.proofs.Counts.{size_of, Sound}
use Rattle.points.proofs.Owed.{Owed}
use Rattle.points.proofs.AnyPoint.{stands-agrees}
use Rattle.points.proofs.Larger.{larger}
use Rattle.exponential.specs.declared.Counts.{Counts}
use Rattle.exponential.specs.Series.{lowest_of_all, read}
use Rattle.exponential.proofs.Facts as Facts
use Rattle.exponential.proofs.Stays.{read-point}
use Rattle.explicit.specs.Series.{buckets_in}
use Rattle.point.specs.declared.Figures.{Figures}
use Rattle.point.specs.declared.Figures.TheVariants.{Exponential, Explicit}
use Rattle.point.specs.Handing.{Stored, stored_in, counts_as, counts_in, handed_in, figures_shaped, in_shape, figures_for, point_for, Outcome, ended, laid_over, refusal_before, merging}
use Rattle.point.specs.Lists.{Configured}
use Rattle.point.proofs.Laid.{same_count}
use Rattle.point.proofs.Calls as calls

-- "10: room judged by the result's length"
abbrev pub has_room : F.Counts → List ℕ → List ℕ → Bool
has_room c us vs = leb (length (pos_of c)) (length us) && leb (length (neg_of c)) (length vs)

in-over : (new old : List ℕ) → length new ≤ length (over new old)
unfolding over
in-over new old = rw (length-append new (drop (length new) old)) (omega arith)

-- counts laid over rows are in shape
pub laid-shape : (c : F.Counts) (us vs : List ℕ) → figures_shaped (figures_for c) (over (pos_of c) us) (over (neg_of c) vs) ≡ true
laid-shape (exponential_counts p) us vs =
    λ j. le-leb (finest - p.d) finest (omega arith) j && (le-leb (length p.pos.counts) (length (over p.pos.counts us)) (in-over p.pos.counts us) j
    && le-leb (length p.neg.counts) (length (over p.neg.counts vs)) (in-over p.neg.counts vs) j)
laid-shape (explicit_counts b p) us vs = refl

-- what a merge that is not refused leaves: the point x
abbrev pub leaves : Stored → Outcome
leaves x = ended (success x.point) x.bounds x.pos x.neg

-- the outcome is a point that reads as h
pub record Answers (o : Outcome) (h : Handed) : Type 0 where
  pub left : Stored
  pub is : o ≡ leaves left
  pub reads : handed_in left ≡ h
  pub shape : in_shape left ≡ true

module _ (size : ℕ) (a b : Stored) (e : refusal_before size a b ≡ 0) (us vs : List ℕ) where
  abbrev counts_made : F.Counts
  counts_made = merge_counts size (counts_in a) (counts_in b)

  -- ---- the counts laid over the rows read as the merged ones
  abbrev Back : Figures → Figures → Type 0
  Back f g =
      let c = merge_counts size (counts_as f a.bounds a.pos a.neg) (counts_as g b.bounds b.pos b.neg) in
      counts_as (figures_for c) a.bounds (over (pos_of c) us) (over (neg_of c) vs) ≡ c

  exponential-back : (c d : Counts) → a.point.figures ≡ Exponential c → b.point.figures ≡ Exponential d → Back (Exponential c) (Exponential d)
  exponential-back c d f g =
      let k = calls.agreeing size a b e c d f g in
      let p = Facts.agreed size finest c a.pos a.neg k.first in
      let q = Facts.agreed size finest d b.pos b.neg k.second in
      let m = merge-agrees size size size finest finest lowest_of_all (read c a.pos a.neg) (read d b.pos b.neg) p.least p.point q.point in
      ap exponential_counts (read-point _ us vs m.coarse)

  explicit-back : (n m : ℕ) → a.point.figures ≡ Explicit n → b.point.figures ≡ Explicit m → Back (Explicit n) (Explicit m)
  unfolding merge_buckets
  explicit-back n m f g =
      let bs = a.bounds in
      let cs = b.bounds in
      let p = buckets-say bs (buckets_in bs n a.pos) (calls.ok-first size a b e n m f g) in
      let q = buckets-say cs (buckets_in cs m b.pos) (calls.ok-second size a b e n m f g) in
      let k = bucket_count bs in
      let r : List ℕ = added (take k a.pos) (take (bucket_count cs) b.pos) in
      let l : length r ≡ k = (merge-buckets-ok bs cs (buckets_in bs n a.pos) (buckets_in cs m b.pos) (same_count bs cs (calls.same size a b e n m f g)) p q).whole in
      let t : take k (over r us) ≡ r = ap (λ i. take i (over r us)) (sym l) ∙ take-over r us in
      λ j. explicit_counts bs (record { counts = t j; total = n + m })

  back : (f g : Figures) → a.point.figures ≡ f → b.point.figures ≡ g → Back f g
  back (Exponential c) (Exponential d) f g = exponential-back c d f g
  back (Exponential c) (Explicit m) f g = absurd (calls.not_mixed size a b e c m f g)
  back (Explicit n) (Exponential d) f g = absurd (calls.not_mixed_2 size a b e n d f g)
  back (Explicit n) (Explicit m) f g = explicit-back n m f g

  pub laid-back : counts_as (figures_for counts_made) a.bounds (over (pos_of counts_made) us) (over (neg_of counts_made) vs) ≡ counts_made
  laid-back = back a.point.figures b.point.figures refl refl

  abbrev merged : Handed
  merged = merge_handed size (handed_in a) (handed_in b)

  -- not refused before: it comes to the room
  by-room : (t : Bool) → has_room counts_made us vs ≡ t
      → merging size a b us vs ≡ pick t (leaves (stored_in (point_for merged) a.bounds (over (pos_of counts_made) us) (over (neg_of counts_made) vs))) (ended (refusal 10) a.bounds us vs)
  unfolding merging laid_over merge_handed pick
  by-room t r =
      let z = stored_in (point_for merged) a.bounds (over (pos_of counts_made) us) (over (neg_of counts_made) vs) in
      λ j. pick (eq-eqb (refusal_before size a b) 0 e j) (pick (r j) (leaves z) (ended (refusal 10) a.bounds us vs)) (ended (refusal (refusal_before size a b)) a.bounds us vs)

  -- ---- WITH ROOM the merged point lies over the rows, with the first's bounds
  pub with-room : has_room counts_made us vs ≡ true → merging size a b us vs ≡ leaves (stored_in (point_for merged) a.bounds (over (pos_of counts_made) us) (over (neg_of counts_made) vs))
  unfolding pick
  with-room r = by-room true r

  -- and reads as the merge of the points read
  pub answers : has_room counts_made us vs ≡ true → Answers (merging size a b us vs) (merge_handed size (handed_in a) (handed_in b))
  unfolding merge_handed
  answers r =
      let z = stored_in (point_for merged) a.bounds (over (pos_of counts_made) us) (over (neg_of counts_made) vs) in
      record {
        left = z;
        is = with-room r;
        reads = λ j. record { counts = laid-back j; extremes = z.point.extremes; threshold = zero_float; min = z.point.min; max = z.point.max; sum = z.point.sum };
        shape = laid-shape counts_made us vs;
      }

  -- ---- WITHOUT ROOM 10, and all as it was
  pub no_room : has_room counts_made us vs ≡ false → merging size a b us vs ≡ ended (refusal 10) a.bounds us vs
  unfolding pick
  no_room r = by-room false r

-- ---- a kind that could be configured
pub sound : (k : Kind) → Configured k → Sound k
sound (exponential size top) h = (Facts.size_in size h).0
sound (explicit bounds) h = h

-- a point that stands for values agrees by itself: under its own max_size, and so under the greatest
size-most : (k : Kind) → Configured k → size_of k ≤ most_size
size-most (exponential size top) h = leb-true size most_size (and_right (leb 3 size) (leb size most_size) h)
size-most (explicit bounds) h = omega arith

pub stands-alone : (N : Number) → Owed N → (s : Settings) → Configured s.kind → (p : Any.Handed N) (vs : List N.Value) → Any.Stands N s p vs
    → Any.handed_agrees N most_size finest (lowest_bin finest) p ≡ true
stands-alone N O s k p vs h =
    larger N (size_of s.kind) most_size (lowest_bin finest) p (size-most s.kind k) (stands-agrees N O s p vs (sound s.kind k) h)
