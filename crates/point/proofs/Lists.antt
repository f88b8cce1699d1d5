-- A list of values recorded one by one from the fresh series and handed out is document 01's point of the list, of either kind; and rows with
-- room for any such point. Assumes nothing.
use Prim.Native.Nat.{ℕ, ◌-◌, ◌^◌, ◌≤◌, ◌<◌}
use mathlib.Core.Path.{◌≡◌, refl, ap, sym, subst}
use mathlib.Core.Bool.{Bool, true, ◌&&◌}
use mathlib.Core.List.{List}
use native.Mathlib.Omega.{arith}
use lib.Dec.{leb}
use lib.ListN.{length, replicate}
use lib.Ieee.{Float}
use borrow.Author.Tests.{le-leb}
use Rattle.laws.specs.Lists.{All}
use Rattle.laws.specs.Said.{success}
use Rattle.laws.proofs.Bools.{and_intro}
use Rattle.index.specs.Bins.{finest}
use Rattle.floats.specs.Starts.{FiniteF64}
use Rattle.rows.specs.Rows.{over}
use Rattle.points.specs.Explicit.{bounds_pass, bucket_count, buckets_of}
use Rattle.points.specs.Values.{counts_of}
use Rattle.points.specs.Figures.{Kind, exponential, explicit, size_passes, settings_of, exponential_counts, explicit_counts, kind_counts}
use Rattle.points.proofs.Classes.{counts_of-agrees}
use Rattle.points.proofs.Explicit.{buckets_of-ok}
use Rattle.exponential.specs.declared.Head as SH
use Rattle.exponential.specs.Series as S
use Rattle.exponential.specs.Inner as Inner
use Rattle.exponential.specs.Runs.{fresh_head}
use Rattle.exponential.proofs.Facts as Facts
use Rattle.exponential.proofs.Lists as SL
use Rattle.explicit.specs.declared.Head as BH
use Rattle.explicit.specs.Series as B
use Rattle.explicit.proofs.Listed as BL
use Rattle.point.specs.Handing.{stored_in, exponential_point, explicit_point}
use Rattle.point.specs.Lists.{Configured, PointOf, Long}
use Rattle.point.proofs.Means.{exponential-list, explicit-list}
use Rattle.point.proofs.Answers.{has_room}

-- ---- THE EXPONENTIAL KIND
module _ (size top : ℕ) (sized : size_passes size ≡ true) (known : top ≤ finest)
    (xs ys : List ℕ) (long : size ≤ length xs) (long' : size ≤ length ys) (vs : List Float) (values : All FiniteF64 vs) (few : length vs < 2 ^ 64) where
  -- the series after all values
  abbrev exponential_run : Inner.Series
  exponential_run = Inner.run_all size top (record { head = fresh_head top; pos = xs; neg = ys }) vs

  point-is : (bs : List Float) (extremes sums : Bool)
      → PointOf (settings_of (exponential size top) extremes sums) vs (stored_in (exponential_point exponential_run.head extremes sums) bs exponential_run.pos exponential_run.neg)
  point-is bs extremes sums =
      let h = SL.run_is size top xs ys vs (Facts.size_in size sized).0 (Facts.size_in size sized).1 known long long' values few in
      let c = exponential_run.head.counts in
      let a = Facts.agreed size top c exponential_run.pos exponential_run.neg h.agree in
      record {
        is = exponential-list (exponential size top) extremes sums bs exponential_run.pos exponential_run.neg vs exponential_run.head (λ j. record { counts = exponential_counts (h.rows j); summary = h.summary j });
        shape = λ j. le-leb c.level finest (omega (arith, a.level)) j && (le-leb c.pos.len (length exponential_run.pos) a.pos_there j && le-leb c.neg.len (length exponential_run.neg) a.neg_there j);
        values = values;
      }

  pub exponential-recorded : (bs : List Float) (extremes sums : Bool)
      → (let z = SL.called size top (S.outcome (success (fresh_head top)) xs ys) vs in
      (h : SH.Head) × (z.answer ≡ success h) × PointOf (settings_of (exponential size top) extremes sums) vs (stored_in (exponential_point h extremes sums) bs z.pos z.neg))
  exponential-recorded bs extremes sums =
      let e = SL.all-called size top xs ys vs (Facts.size_in size sized).0 (Facts.size_in size sized).1 known long long' values few in
      let h = exponential_run.head in (
        h,
        ap (λ (o : S.Outcome). o.answer) e,
        subst (λ (o : S.Outcome). PointOf (settings_of (exponential size top) extremes sums) vs (stored_in (exponential_point h extremes sums) bs o.pos o.neg)) (sym e) (point-is bs extremes sums),
      )

-- ---- THE EXPLICIT KIND, from zeros in its row
module _ (bounds : List Float) (passes : bounds_pass bounds ≡ true) (xs : List ℕ) (long : bucket_count bounds ≤ length xs) (vs : List Float) (values : All FiniteF64 vs) (few : length vs < 2 ^ 64) where
  abbrev explicit_run : BL.Series
  explicit_run = BL.run_all bounds (BL.fresh bounds xs) vs

  buckets-are : (ys : List ℕ) (extremes sums : Bool)
      → PointOf (settings_of (explicit bounds) extremes sums) vs (stored_in (explicit_point explicit_run.head extremes sums) bounds explicit_run.counts ys)
  buckets-are ys extremes sums =
      let h = BL.run_is bounds xs vs passes long values few in
      record {
        is = explicit-list (explicit bounds) extremes sums bounds explicit_run.counts ys vs explicit_run.head (λ j. record { counts = explicit_counts bounds (h.rows j); summary = h.summary j });
        shape = refl;
        values = values;
      }

  pub explicit-recorded : (ys : List ℕ) (extremes sums : Bool)
      → (let z = BL.called bounds (B.outcome (success B.fresh_head) (over (replicate (bucket_count bounds) 0) xs)) vs in
      (h : BH.Head) × (z.answer ≡ success h) × PointOf (settings_of (explicit bounds) extremes sums) vs (stored_in (explicit_point h extremes sums) bounds z.counts ys))
  explicit-recorded ys extremes sums =
      let e = BL.all-called bounds xs vs passes long values few in
      let h = explicit_run.head in (
        h,
        ap (λ (o : B.Outcome). o.answer) e,
        subst (λ (o : B.Outcome). PointOf (settings_of (explicit bounds) extremes sums) vs (stored_in (explicit_point h extremes sums) bounds o.counts ys)) (sym e) (buckets-are ys extremes sums),
      )

-- ---- ROOM for any list
pub long-enough : (k : Kind) (t : Float) (v : List Float) (us vs : List ℕ) → Configured k → All FiniteF64 v → Long k us vs → has_room (kind_counts k t v) us vs ≡ true
long-enough (exponential size top) t v us vs k f l =
    let p = counts_of size (finest - top) t v in
    let a = counts_of-agrees size top t v (Facts.size_in size k).0 f in
    and_intro (leb (length p.pos.counts) (length us)) (leb (length p.neg.counts) (length vs))
    (le-leb (length p.pos.counts) (length us) (omega (arith, a.pos.short, l.0)))
    (le-leb (length p.neg.counts) (length vs) (omega (arith, a.neg.short, l.1)))
long-enough (explicit bounds) t v us vs k f l =
    let p = buckets_of bounds v in
    and_intro (leb (length p.counts) (length us)) (leb 0 (length vs))
    (le-leb (length p.counts) (length us) (omega (arith, (buckets_of-ok bounds v k).whole, l)))
    (le-leb 0 (length vs) (omega arith))
