-- Bounds and buckets one place at a time, as a loop from the left meets them; and under bounds that are equal as numbers.
-- Assumes nothing.
use Prim.Native.Nat.{suc, ◌+◌}
use mathlib.Core.Path.{◌≡◌, refl, ap, sym, ◌∙◌}
use mathlib.Core.Bool.{true, not, ◌&&◌, and_assoc, and-true}
use mathlib.Core.List.{List, [], ◌∷◌, ◌++◌, map}
use native.Mathlib.Omega.{arith}
use lib.Dec.{ltb}
use lib.ListN.{length}
use lib.Ieee.{Float, binary64, lt, eq, is_nan}
use borrow.Author.Tests.{eqb-true}
use Rattle.laws.specs.Lists.{All}
use Rattle.laws.specs.Counting.{bit, count, table}
use Rattle.laws.proofs.Bools.{and_left, and_right}
use Rattle.laws.proofs.Cases.{true-not-false}
use Rattle.floats.proofs.Order.{key, Ok, lt-key}
use Rattle.floats.proofs.Equal.{eq-key}
use Rattle.points.specs.Explicit.{no_nan, rising, same_bounds, bucket_of, bucket_count, buckets_of, merge_buckets}
use Rattle.points.proofs.Explicit.{merge-buckets_of}

pub no_nan-next : (bs : List Float) (c : Float) → no_nan (bs ++ c ∷ []) ≡ no_nan bs && not (is_nan c)
unfolding no_nan
no_nan-next [] c = and-true (not (is_nan c))
no_nan-next (b ∷ bs) c = ap (λ t. not (is_nan b) && t) (no_nan-next bs c) ∙ sym (and_assoc (not (is_nan b)) (no_nan bs) (not (is_nan c)))

pub rising-next : (bs : List Float) (c d : Float) → rising (bs ++ c ∷ d ∷ []) ≡ rising (bs ++ c ∷ []) && lt c d
unfolding rising
rising-next [] c d = and-true (lt c d)
rising-next (b ∷ []) c d = ap (λ t. lt b c && t) (and-true (lt c d)) ∙ ap (λ t. t && lt c d) (sym (and-true (lt b c)))
rising-next (b ∷ e ∷ bs) c d =
    ap (λ t. lt b e && t) (rising-next (e ∷ bs) c d) ∙ sym (and_assoc (lt b e) (rising (e ∷ bs ++ c ∷ [])) (lt c d))

pub same_next : (bs cs : List Float) (b c : Float) → length bs ≡ length cs → same_bounds (bs ++ b ∷ []) (cs ++ c ∷ []) ≡ same_bounds bs cs && eq b c
unfolding same_bounds
same_next [] [] b c h = and-true (eq b c)
same_next [] (y ∷ ys) b c h = absurd (omega arith)
same_next (x ∷ xs) [] b c h = absurd (omega arith)
same_next (x ∷ xs) (y ∷ ys) b c h = ap (λ t. eq x y && t) (same_next xs ys b c (omega arith)) ∙ sym (and_assoc (eq x y) (same_bounds xs ys) (eq b c))

pub bucket-next : (bs : List Float) (c v : Float) → bucket_of (bs ++ c ∷ []) v ≡ bucket_of bs v + bit (lt c v)
unfolding bucket_of
bucket-next [] c v = omega arith
bucket-next (b ∷ bs) c v = omega (arith, bucket-next bs c v)

-- ---- EQUAL BOUNDS (as numbers: -0.0 and 0.0) have the same buckets
same_length : (bs cs : List Float) → same_bounds bs cs ≡ true → length bs ≡ length cs
unfolding same_bounds
same_length [] [] h = refl
same_length [] (c ∷ cs) h = true-not-false (sym h)
same_length (b ∷ bs) [] h = true-not-false (sym h)
same_length (b ∷ bs) (c ∷ cs) h = ap suc (same_length bs cs (and_right (eq b c) (same_bounds bs cs) h))

pub same_count : (bs cs : List Float) → same_bounds bs cs ≡ true → bucket_count bs ≡ bucket_count cs
same_count [] [] h = refl
same_count [] (c ∷ cs) h = absurd (omega (arith, same_length [] (c ∷ cs) h))
same_count (b ∷ bs) [] h = absurd (omega (arith, same_length (b ∷ bs) [] h))
same_count (b ∷ bs) (c ∷ cs) h = ap suc (same_length (b ∷ bs) (c ∷ cs) h)

-- equal numbers lie below the same values
same-below : (b c v : Float) → Ok binary64 b → Ok binary64 c → Ok binary64 v → eq b c ≡ true → lt b v ≡ lt c v
same-below b c v p q r h =
    lt-key binary64 b v p r
    ∙ ap (λ n. ltb n (key binary64 v)) (eqb-true (key binary64 b) (key binary64 c) (sym (eq-key binary64 b c p q) ∙ h))
    ∙ sym (lt-key binary64 c v q r)

pub same-bucket : (bs cs : List Float) (v : Float) → All (Ok binary64) bs → All (Ok binary64) cs → Ok binary64 v → same_bounds bs cs ≡ true → bucket_of bs v ≡ bucket_of cs v
unfolding All same_bounds bucket_of
same-bucket [] [] v p q r h = refl
same-bucket [] (c ∷ cs) v p q r h = true-not-false (sym h)
same-bucket (b ∷ bs) [] v p q r h = true-not-false (sym h)
same-bucket (b ∷ bs) (c ∷ cs) v p q r h =
    rw (same-below b c v p.0 q.0 r (and_left (eq b c) (same_bounds bs cs) h), same-bucket bs cs v p.1 q.1 r (and_right (eq b c) (same_bounds bs cs) h))

module _ (bs cs : List Float) (p : All (Ok binary64) bs) (q : All (Ok binary64) cs) (h : same_bounds bs cs ≡ true) where
  each : (vs : List Float) → All (Ok binary64) vs → map (bucket_of bs) vs ≡ map (bucket_of cs) vs
  unfolding All
  each [] r = refl
  each (v ∷ vs) r = rw (same-bucket bs cs v p q r.0 h, each vs r.1)

  pub same-buckets : (vs : List Float) → All (Ok binary64) vs → buckets_of bs vs ≡ buckets_of cs vs
  unfolding buckets_of
  same-buckets vs r = λ i. record { counts = table (λ j. count j (each vs r i)) 0 (same_count bs cs h i); total = length vs }

  -- points of two lists under equal bounds merge to the point of the lists joined, under the first's
  pub merge-same : (xs ys : List Float) → All (Ok binary64) ys → merge_buckets (buckets_of bs xs) (buckets_of cs ys) ≡ buckets_of bs (xs ++ ys)
  merge-same xs ys r = ap (merge_buckets (buckets_of bs xs)) (sym (same-buckets ys r)) ∙ merge-buckets_of bs xs ys
