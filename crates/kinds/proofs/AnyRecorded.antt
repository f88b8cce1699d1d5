-- The histogram kinds over any number are lawful: a series has the values recorded into it; agreement is kept. Assumes nothing.
use Prim.Native.Nat.{◌-◌}
use mathlib.Core.Path.{◌≡◌, refl, sym, ap, subst, ◌∙◌}
use mathlib.Core.Bool.{true, false, ◌&&◌}
use mathlib.Core.List.{List, [], ◌∷◌}
use native.Mathlib.Omega.{arith}
use lib.Dec.{leb}
use lib.Ieee.{Float}
use borrow.Author.Tests.{leb-true}
use Rattle.laws.specs.Lists.{All}
use Rattle.laws.specs.Tests.{all}
use Rattle.laws.proofs.Bools.{and_left, and_intro}
use Rattle.laws.proofs.Cases.{and-true}
use Rattle.laws.proofs.Lists.{all_append}
use Rattle.index.specs.Bins.{finest, lowest_bin}
use Rattle.floats.specs.Starts.{FiniteF64}
use Rattle.points.specs.Points.{record1}
use Rattle.points.specs.Classes.{class_of, counts_of}
use Rattle.points.specs.Explicit.{buckets_of, record_bucket}
use Rattle.points.specs.Counts.{Kind, exponential, explicit, size_passes, Settings, Counts, exponential_counts, explicit_counts, kind_counts, record_counts, count_of}
use Rattle.points.specs.Number.{Number}
use Rattle.points.specs.Any.{Figures, figures_of, record_figures, summary_of, Handed, handed_out, handed}
use Rattle.points.proofs.Agreement.{agrees-says, agreed-agrees}
use Rattle.points.proofs.Kept.{record-agrees}
use Rattle.points.proofs.Classes.{class_in, counts_of-agrees}
use Rattle.points.proofs.Explicit.{buckets-say, record-buckets-ok, buckets_of-ok, buckets-agree}
use Rattle.points.proofs.Counts.{Sound}
use Rattle.points.proofs.Owed.{Owed}
use Rattle.points.proofs.AnyPoint as P
use Rattle.tally.proofs.Lawful.{Lawful}
use Rattle.tally.proofs.Sound.{Steady}
use Rattle.kinds.specs.Any.{passes, counts_hold, histograms_of}

-- ---- settings that configuring accepts, and the counts of a list under them
pub sound-kind : (k : Kind) → passes k ≡ true → Sound k
sound-kind (exponential size top) e =
    leb-true 3 size (and_left (leb 3 size) (leb size 160) (and-true (size_passes size) (leb top finest) e).0)
sound-kind (explicit bounds) e = e

counts-hold : (k : Kind) (t : Float) (vs : List Float) → Sound k → All FiniteF64 vs → counts_hold k (kind_counts k t vs) ≡ true
counts-hold (exponential size top) t vs h p =
    agreed-agrees size top (lowest_bin finest) (counts_of size (finest - top) t vs) (counts_of-agrees size top t vs h p)
counts-hold (explicit bounds) t vs h p = buckets-agree bounds (buckets_of bounds vs) (buckets_of-ok bounds vs h)

counts-kept : (k : Kind) (t : Float) (c : Counts) (v : Float) → passes k ≡ true → FiniteF64 v → counts_hold k c ≡ true → counts_hold k (record_counts k t c v) ≡ true
counts-kept (exponential size top) t (exponential_counts p) v e f h =
    agreed-agrees size top (lowest_bin finest) (record1 size p (class_of t v))
    (record-agrees size size top (lowest_bin finest) p (class_of t v) (sound-kind (exponential size top) e) (agrees-says size top (lowest_bin finest) p h) (class_in t v f))
counts-kept (exponential size top) t (explicit_counts b p) v e f h = h
counts-kept (explicit bounds) t (exponential_counts p) v e f h = h
counts-kept (explicit bounds) t (explicit_counts b p) v e f h =
    buckets-agree bounds (record_bucket bounds p v) (record-buckets-ok bounds p v (buckets-say bounds p h))

all_one : {A : Type 0} (P : A → Type 0) (v : A) → P v → All P (v ∷ [])
unfolding All
all_one P v h = (h, tt)

all_first : {A : Type 0} (P : A → Type 0) (v : A) (vs : List A) → All P (v ∷ vs) → P v
unfolding All
all_first P v vs h = h.0

module _ (N : Number) (O : Owed N) (point_of : Settings → List N.Value → Handed N) (is : (z : Settings) (vs : List N.Value) → point_of z vs ≡ handed N z vs) where
  -- ---- values that are accepted are known
  pub all_known : (vs : List N.Value) → all N.taken vs ≡ true → All N.Known vs
  unfolding All
  all_known [] e = tt
  all_known (v ∷ vs) e = let a = and-true (N.taken v) (all N.taken vs) e in (O.taken-known v a.0, all_known vs a.1)

  -- ---- the laws
  record Has (z : Settings) (x : Figures N) (vs : List N.Value) : Type 0 where
    valid : passes z.kind ≡ true
    values : All N.Known vs
    figures : x ≡ figures_of N z vs

  agreeing : (z : Settings) (x : Figures N) (vs : List N.Value) → Has z x vs → (histograms_of N point_of).agrees z x ≡ true
  agreeing z x vs h =
      ap ((histograms_of N point_of).agrees z) h.figures
      ∙ and_intro (counts_hold z.kind (kind_counts z.kind z.threshold (N.nears vs)))
      (N.finite (summary_of N z.sums vs).min && N.finite (summary_of N z.sums vs).max)
      (counts-hold z.kind z.threshold (N.nears vs) (sound-kind z.kind h.valid) (O.nears-known vs h.values))
      (and_intro (N.finite (summary_of N z.sums vs).min) (N.finite (summary_of N z.sums vs).max)
      (O.known-finite (summary_of N z.sums vs).min (O.extreme-known true z.sums vs h.values))
      (O.known-finite (summary_of N z.sums vs).max (O.extreme-known false z.sums vs h.values)))

  pub lawful : Lawful (histograms_of N point_of)
  lawful =
      record {
        Has = Has;
        fresh = λ z ok. record { valid = ok; values = all_known [] refl; figures = refl };
        add = λ z x vs v h f l a. record {
          valid = h.valid;
          values = all_append N.Known vs (v ∷ []) h.values (all_one N.Known v (O.taken-known v f));
          figures = ap (λ y. record_figures N z y v) h.figures ∙ P.figures_append N O z vs v;
        };
        agrees = agreeing;
        total = λ z x vs h. omega (arith, ap (λ y. count_of y.counts) h.figures, P.counted N O z vs);
        allows = λ z x vs v h f. ap (λ y. N.takes z.sums y.summary.sum v) h.figures;
        point = λ z x vs h. ap (handed_out N z) h.figures ∙ sym (is z vs);
      }

  -- ---- A SERIES THAT AGREES STAYS AGREEING. Below size 3 a recording need not fit even at scale -10: hence `valid`
  pub stays-agreeing : (z : Settings) (x : Figures N) (v : N.Value) → passes z.kind ≡ true → N.taken v ≡ true
      → (histograms_of N point_of).agrees z x ≡ true → (histograms_of N point_of).agrees z (record_figures N z x v) ≡ true
  stays-agreeing z x v e f h =
      let a = and-true (counts_hold z.kind x.counts) (N.finite x.summary.min && N.finite x.summary.max) h in
      let b = and-true (N.finite x.summary.min) (N.finite x.summary.max) a.1 in
      let p = O.taken-known v f in
      let k = O.known-finite v p in
      let near : FiniteF64 (N.near v) = all_first FiniteF64 (N.near v) [] (subst (All FiniteF64) (O.nears-one v) (O.nears-known (v ∷ []) (all_one N.Known v p))) in
      and_intro (counts_hold z.kind (record_counts z.kind z.threshold x.counts (N.near v))) (N.finite (N.lesser x.summary.min v) && N.finite (N.greater x.summary.max v))
      (counts-kept z.kind z.threshold x.counts (N.near v) e near a.0)
      (and_intro (N.finite (N.lesser x.summary.min v)) (N.finite (N.greater x.summary.max v))
      (O.chosen-finite true x.summary.min v b.0 k) (O.chosen-finite false x.summary.max v b.1 k))

  -- the empty series agrees too: so number 8 never comes up of a map in which each series agrees
  pub steady : Steady (histograms_of N point_of)
  steady =
      record {
        fresh = λ z ok. lawful.agrees z (figures_of N z []) [] (lawful.fresh z ok);
        add = λ z x v ok f h. stays-agreeing z x v ok f h;
      }
