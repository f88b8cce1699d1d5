-- Merged counts laid over lent rows, case by case. Assumes nothing.
use Prim.Native.Nat.{ℕ, suc, ◌+◌, ◌^◌, ◌≤◌, ◌<◌}
use mathlib.Core.Path.{◌≡◌, refl, ap, sym, subst, ◌∙◌}
use mathlib.Core.Logic.{⊎_elim}
use mathlib.Core.Bool.{true, false}
use mathlib.Core.List.{List, [], ◌∷◌}
use native.Mathlib.Nat.{eq-zero-or-pos}
use native.Mathlib.Omega.{arith}
use lib.Dec.{leb}
use lib.ListN.{length, take, length-take}
use lib.Seq.{length-take-le}
use lib.Ieee.{Float, eq}
use borrow.Author.Tests.{le-leb, lt-leb}
use Rattle.laws.specs.Pick.{pick}
use Rattle.laws.specs.Counting.{total}
use Rattle.laws.proofs.Bools.{flag, not-both, and_right}
use Rattle.rows.specs.Rows.{over}
use Rattle.points.specs.Points as P
use Rattle.points.specs.Explicit.{same_bounds, bucket_count, added, merge_buckets}
use Rattle.points.specs.Figures.{exponential_counts, explicit_counts}
use Rattle.points.proofs.Explicit.{BucketsOk, length-added}
use Rattle.exponential.specs.declared.Counts.{Counts}
use Rattle.exponential.specs.Inner.{Written}
use Rattle.explicit.specs.Series.{buckets_in}
use Rattle.explicit.specs.Inner.{Addable}
use Rattle.point.specs.declared.Figures.TheVariants.{Exponential, Explicit}
use Rattle.std.specs.Prelude.{Ok, Err}
use Rattle.refusals.specs.declared.Refusal.TheVariants.{NoRoom}
use Rattle.point.specs.Inner.{made_over, counts_over, made_one, laid_one}

-- ---- the exponential kind

module _ (m : P.Point) (us vs : List ℕ) where
  pub no-pos : length us < length m.pos.counts → made_over (Err NoRoom) us vs ≡ counts_over (exponential_counts m) us vs
  unfolding counts_over pick
  no-pos h = rw (lt-leb (length m.pos.counts) (length us) h) refl

  module _ (p : length m.pos.counts ≤ length us) where
    pub no-neg : length vs < length m.neg.counts → made_over (Err NoRoom) us vs ≡ counts_over (exponential_counts m) us vs
    unfolding counts_over pick
    no-neg h = rw (le-leb (length m.pos.counts) (length us) p, lt-leb (length m.neg.counts) (length vs) h) refl

    pub laid : length m.neg.counts ≤ length vs → (r : Counts) (us' vs' : List ℕ) → Written m us vs r us' vs'
        → made_over (Ok (Exponential r)) us' vs' ≡ counts_over (exponential_counts m) us vs
    unfolding counts_over pick
    laid n r us' vs' w =
        (λ j. made_over (Ok (Exponential (w.counts j))) (w.pos j) (w.neg j))
        ∙ rw (le-leb (length m.pos.counts) (length us) p, le-leb (length m.neg.counts) (length vs) n) refl

-- ---- the explicit kind

module _ (k n : ℕ) (xs : List ℕ) (m : ℕ) (zs us : List ℕ) where
  pub no_one : length us < k → made_one (Err NoRoom) us ≡ laid_one k n xs m zs us
  unfolding laid_one pick
  no_one h = rw (lt-leb k (length us) h) refl

  pub laid_one_lem : k ≤ length us → (us' : List ℕ) → us' ≡ over (added (take k xs) (take k zs)) us
      → made_one (Ok (Explicit (n + m))) us' ≡ laid_one k n xs m zs us
  unfolding laid_one pick
  laid_one_lem h us' e = ap (made_one (Ok (Explicit (n + m)))) e ∙ rw (le-leb k (length us) h) refl

same_length : (bs cs : List Float) → same_bounds bs cs ≡ true → length bs ≡ length cs
unfolding same_bounds
same_length [] [] h = refl
same_length [] (c ∷ cs) h = absurd (not-both false h refl)
same_length (b ∷ bs) [] h = absurd (not-both false h refl)
same_length (b ∷ bs) (c ∷ cs) h = ap suc (same_length bs cs (and_right (eq b c) (same_bounds bs cs) h))

count-length : (bs cs : List Float) → length bs ≡ length cs → bucket_count bs ≡ bucket_count cs
count-length [] [] h = refl
count-length [] (c ∷ cs) h = absurd (omega arith)
count-length (b ∷ bs) [] h = absurd (omega arith)
count-length (b ∷ bs) (c ∷ cs) h = ap suc h

pub same_count : (bs cs : List Float) → same_bounds bs cs ≡ true → bucket_count bs ≡ bucket_count cs
same_count bs cs h = count-length bs cs (same_length bs cs h)

whole-there : (k : ℕ) (xs : List ℕ) → length (take k xs) ≡ k → k ≤ length xs
whole-there k xs e = omega (arith, e, length-take k xs)

module _ (bs : List Float) (n : ℕ) (xs : List ℕ) (cs : List Float) (m : ℕ) (zs : List ℕ) (same : same_bounds bs cs ≡ true)
    (ok : BucketsOk bs (buckets_in bs n xs)) (ok' : BucketsOk cs (buckets_in cs m zs)) where
  k-is : bucket_count bs ≡ bucket_count cs
  k-is = same_count bs cs same

  first : bucket_count bs ≤ length xs
  first = whole-there (bucket_count bs) xs ok.whole

  second : bucket_count bs ≤ length zs
  second = subst (λ (k : ℕ). k ≤ length zs) (sym k-is) (whole-there (bucket_count cs) zs ok'.whole)

  pub addable : n + m < 2 ^ 64 → Addable (bucket_count bs) xs zs × (n + m < 2 ^ 64)
  addable c = (
    record {
      first = first;
      second = second;
      sums = ⊎_elim
          (λ (z : bucket_count bs ≡ 0). rw z (omega arith))
          (λ (p : 0 < bucket_count bs). omega (arith, ok.adds p, subst (λ (k : ℕ). total (take k zs) ≡ m) (sym k-is) (ok'.adds (omega (arith, k-is))), c))
          (eq-zero-or-pos (bucket_count bs));
    },
    c,
  )

  pub over-one : (us vs : List ℕ)
      → counts_over (explicit_counts bs (merge_buckets (buckets_in bs n xs) (buckets_in cs m zs))) us vs
      ≡ made_over (laid_one (bucket_count bs) n xs m zs us).made (laid_one (bucket_count bs) n xs m zs us).counts vs
  unfolding counts_over laid_one merge_buckets over pick
  over-one us vs =
      let k = bucket_count bs in
      let l : length (added (take (bucket_count bs) xs) (take (bucket_count bs) zs)) ≡ bucket_count bs =
      length-added (take k xs) (take k zs) (length-take-le k xs first ∙ sym (length-take-le k zs second)) ∙ length-take-le k xs first in
      rw (← k-is, l, le-leb 0 (length vs) (omega arith))
      (⊎_elim
      (λ (t : leb (bucket_count bs) (length us) ≡ true). rw (t) refl)
      (λ (t : leb (bucket_count bs) (length us) ≡ false). rw (t) refl)
      (flag (leb (bucket_count bs) (length us))))
