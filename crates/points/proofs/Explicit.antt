-- Explicit buckets: recording one by one, joined lists, another order, and merging: commutative, associative, with the fresh point
-- neutral; agreement is kept. Assumes nothing.
use Prim.Native.Nat.{ℕ, zero, suc, ◌+◌, ◌≤◌, ◌<◌}
use mathlib.Core.Path.{◌≡◌, refl, ap, sym, subst, ◌∙◌}
use mathlib.Core.Logic.{inl, inr}
use mathlib.Core.Bool.{true, not, ◌&&◌}
use mathlib.Core.List.{List, [], ◌∷◌, ◌++◌, map, foldl, map-append, append-nil, append_assoc, Permᴰ}
use native.Mathlib.Omega.{arith}
use lib.ListN.{length, get_or, length-append, length-set}
use lib.Dec.{leb, eqb}
use borrow.Author.Tests.{eqb-true, eqb-false, eq-eqb, ne_eqb, not-true}
use lib.Ieee.{Float, lt, eq, is_nan}
use Rattle.floats.proofs.Finite.{eq_self}
use Rattle.laws.specs.Pick.{pick}
use Rattle.laws.specs.Counting.{bit, count, table, total}
use Rattle.laws.proofs.Same.{count_append, same_perm}
use Rattle.laws.proofs.Lists.{map-perm, length-perm}
use Rattle.laws.proofs.Counting.{bit_le, length-table, table-cong, table-set, total-none, total-set}
use Rattle.laws.proofs.Bools.{flag, and_left, and_right, and_intro, pick_true, pick-false}
use Rattle.points.specs.Explicit.{bucket_of, bucket_count, Buckets, buckets_of, record_bucket, added, merge_buckets, no_nan, rising, bounds_pass, same_bounds, buckets_agree}

-- ---- MERGING IS COMMUTATIVE AND ASSOCIATIVE, of any points
added-comm : (xs ys : List ℕ) → added xs ys ≡ added ys xs
unfolding added
added-comm [] [] = refl
added-comm [] (y ∷ ys) = refl
added-comm (x ∷ xs) [] = refl
added-comm (x ∷ xs) (y ∷ ys) = let e : x + y ≡ y + x = omega arith in rw (e, added-comm xs ys)

added-assoc : (xs ys zs : List ℕ) → added (added xs ys) zs ≡ added xs (added ys zs)
unfolding added
added-assoc [] ys zs = refl
added-assoc (x ∷ xs) [] zs = refl
added-assoc (x ∷ xs) (y ∷ ys) [] = refl
added-assoc (x ∷ xs) (y ∷ ys) (z ∷ zs) = let e : x + y + z ≡ x + (y + z) = omega arith in rw (e, added-assoc xs ys zs)

buckets_path : (p q : Buckets) → p.counts ≡ q.counts → p.total ≡ q.total → p ≡ q
buckets_path p q h k = λ i. record { counts = h i; total = k i }

pub buckets-comm : (p q : Buckets) → merge_buckets p q ≡ merge_buckets q p
unfolding merge_buckets
buckets-comm p q = buckets_path (merge_buckets p q) (merge_buckets q p) (added-comm p.counts q.counts) (omega arith)

pub buckets-assoc : (p q r : Buckets) → merge_buckets (merge_buckets p q) r ≡ merge_buckets p (merge_buckets q r)
unfolding merge_buckets
buckets-assoc p q r =
    buckets_path (merge_buckets (merge_buckets p q) r) (merge_buckets p (merge_buckets q r)) (added-assoc p.counts q.counts r.counts) (omega arith)

-- ---- JOINED LISTS
added-tables : (f g : ℕ → ℕ) (lo n : ℕ) → added (table f lo n) (table g lo n) ≡ table (λ j. f j + g j) lo n
unfolding added
added-tables f g lo zero = refl
added-tables f g lo (suc n) = rw (added-tables f g (suc lo) n)

pub merge-buckets_of : (bounds xs ys : List Float) → merge_buckets (buckets_of bounds xs) (buckets_of bounds ys) ≡ buckets_of bounds (xs ++ ys)
unfolding merge_buckets buckets_of
merge-buckets_of bounds xs ys =
    let f : List Float → ℕ → ℕ = λ vs j. count j (map (bucket_of bounds) vs) in
    let n = bucket_count bounds in
    buckets_path (merge_buckets (buckets_of bounds xs) (buckets_of bounds ys)) (buckets_of bounds (xs ++ ys))
    (added-tables (f xs) (f ys) 0 n
    ∙ table-cong (λ j. f xs j + f ys j) (f (xs ++ ys)) 0 n
    (λ j _. sym (ap (λ l. count j l) (map-append (bucket_of bounds) xs ys) ∙ count_append j (map (bucket_of bounds) xs) (map (bucket_of bounds) ys))))
    (sym (length-append xs ys))

-- ---- ONE BY ONE
pub record-buckets_of : (bounds xs : List Float) (v : Float) → record_bucket bounds (buckets_of bounds xs) v ≡ buckets_of bounds (xs ++ v ∷ [])
unfolding record_bucket buckets_of
record-buckets_of bounds xs v =
    let f : List Float → ℕ → ℕ = λ vs j. count j (map (bucket_of bounds) vs) in
    let n = bucket_count bounds in
    let k = bucket_of bounds v in
    buckets_path (record_bucket bounds (buckets_of bounds xs) v) (buckets_of bounds (xs ++ v ∷ []))
    (table-set (f xs) 0 n k
    ∙ table-cong (λ j. f xs j + bit (eqb (0 + k) j)) (f (xs ++ v ∷ [])) 0 n
    (λ j _.
    let e : 0 + k ≡ k = omega arith in
    rw (e, map-append (bucket_of bounds) xs (v ∷ [])) (omega (arith, count_append j (map (bucket_of bounds) xs) (k ∷ [])))))
    (sym (length-append xs (v ∷ [])))

abbrev pub record_buckets : List Float → Buckets → List Float → Buckets
record_buckets bounds = foldl (record_bucket bounds)

pub record_buckets-of : (bounds xs vs : List Float) → record_buckets bounds (buckets_of bounds xs) vs ≡ buckets_of bounds (xs ++ vs)
record_buckets-of bounds xs [] = ap (buckets_of bounds) (sym (append-nil xs))
record_buckets-of bounds xs (v ∷ vs) =
    rw (record-buckets_of bounds xs v) (record_buckets-of bounds (xs ++ v ∷ []) vs ∙ ap (buckets_of bounds) (append_assoc xs (v ∷ []) vs))

-- ---- IN ANOTHER ORDER
pub buckets_of-perm : (bounds : List Float) {xs ys : List Float} → Permᴰ xs ys → buckets_of bounds xs ≡ buckets_of bounds ys
unfolding buckets_of
buckets_of-perm bounds {xs} {ys} h =
    let f : List Float → ℕ → ℕ = λ vs j. count j (map (bucket_of bounds) vs) in
    buckets_path (buckets_of bounds xs) (buckets_of bounds ys)
    (table-cong (f xs) (f ys) 0 (bucket_count bounds) (λ j _. same_perm (map-perm (bucket_of bounds) h) (λ x. bit (eqb x j)))) (length-perm h)

-- ---- THE FRESH POINT IS NEUTRAL for every point with as many buckets
added_none : (lo : ℕ) (ys : List ℕ) → added (table (λ _. 0) lo (length ys)) ys ≡ ys
unfolding added
added_none lo [] = refl
added_none lo (y ∷ ys) = let e : 0 + y ≡ y = omega arith in rw (e, added_none (suc lo) ys)

pub fresh-buckets : (bounds : List Float) (p : Buckets) → length p.counts ≡ bucket_count bounds → merge_buckets (buckets_of bounds []) p ≡ p
unfolding merge_buckets buckets_of
fresh-buckets bounds p h = buckets_path (merge_buckets (buckets_of bounds []) p) p (rw (← h) (added_none 0 p.counts)) (omega arith)

-- ---- AGREEMENT IS KEPT
pub record BucketsOk (bounds : List Float) (p : Buckets) : Type 0 where
  pub passes : bounds_pass bounds ≡ true
  pub whole : length p.counts ≡ bucket_count bounds
  pub adds : 0 < bucket_count bounds → total p.counts ≡ p.total

pub buckets-say : (bounds : List Float) (p : Buckets) → buckets_agree bounds p ≡ true → BucketsOk bounds p
unfolding buckets_agree
buckets-say bounds p h =
    let n = bucket_count bounds in
    let a = bounds_pass bounds in
    let b = eqb (length p.counts) n in
    let t = eqb (total p.counts) p.total in
    let c = pick (eqb n 0) true t in
    let k = and_right a (b && c) h in
    record {
      passes = and_left a (b && c) h;
      whole = eqb-true (length p.counts) n (and_left b c k);
      adds = λ l. eqb-true (total p.counts) p.total (sym (pick-false (eqb n 0) true t (ne_eqb n 0 (λ e. omega arith))) ∙ and_right b c k);
    }

pub buckets-agree : (bounds : List Float) (p : Buckets) → BucketsOk bounds p → buckets_agree bounds p ≡ true
unfolding buckets_agree
buckets-agree bounds p k =
    let n = bucket_count bounds in
    let b = eqb (length p.counts) n in
    let t = eqb (total p.counts) p.total in
    let c = pick (eqb n 0) true t in
    and_intro (bounds_pass bounds) (b && c) k.passes
    (and_intro b c (eq-eqb (length p.counts) n k.whole)
    (elim (flag (eqb n 0)) [
      | inl e ↦ pick_true (eqb n 0) true t e
      | inr e ↦
          let ne = eqb-false n 0 e in
          pick-false (eqb n 0) true t e ∙ eq-eqb (total p.counts) p.total (k.adds (omega arith))
    ]))

pub bucket-le : (bounds : List Float) (v : Float) → bucket_of bounds v ≤ length bounds
unfolding bucket_of
bucket-le [] v = omega arith
bucket-le (b ∷ bs) v = omega (arith, bit_le (lt b v), bucket-le bs v)

-- with bounds, each value has a bucket
bucket_in : (bounds : List Float) (v : Float) → 0 < bucket_count bounds → bucket_of bounds v < bucket_count bounds
bucket_in [] v h = absurd (omega arith)
bucket_in (b ∷ bs) v h = let l = bucket-le (b ∷ bs) v in omega arith

pub record-buckets-ok : (bounds : List Float) (p : Buckets) (v : Float) → BucketsOk bounds p → BucketsOk bounds (record_bucket bounds p v)
unfolding record_bucket
record-buckets-ok bounds p v k =
    let j = bucket_of bounds v in
    record {
      passes = k.passes;
      whole = length-set p.counts j (get_or p.counts j 0 + 1) ∙ k.whole;
      adds = λ h. omega (arith, k.adds h, total-set p.counts j (omega (arith, k.whole, bucket_in bounds v h)));
    }

total-added : (xs ys : List ℕ) → total (added xs ys) ≡ total xs + total ys
unfolding added
total-added [] ys = omega arith
total-added (x ∷ xs) [] = omega arith
total-added (x ∷ xs) (y ∷ ys) = omega (arith, total-added xs ys)

pub length-added : (xs ys : List ℕ) → length xs ≡ length ys → length (added xs ys) ≡ length xs
unfolding added
length-added [] ys h = sym h
length-added (x ∷ xs) [] h = refl
length-added (x ∷ xs) (y ∷ ys) h = ap suc (length-added xs ys (omega arith))

-- the first's bounds stay; the second's are as many
pub merge-buckets-ok : (bounds cs : List Float) (p q : Buckets) → bucket_count bounds ≡ bucket_count cs → BucketsOk bounds p → BucketsOk cs q → BucketsOk bounds (merge_buckets p q)
unfolding merge_buckets
merge-buckets-ok bounds cs p q e k l =
    record {
      passes = k.passes;
      whole = length-added p.counts q.counts (k.whole ∙ e ∙ sym l.whole) ∙ k.whole;
      adds = λ h. omega (arith, total-added p.counts q.counts, k.adds h, l.adds (omega arith));
    }

pub fresh-buckets-ok : (bounds : List Float) → bounds_pass bounds ≡ true → BucketsOk bounds (buckets_of bounds [])
unfolding buckets_of
fresh-buckets-ok bounds h =
    record { passes = h; whole = length-table (λ _. 0) 0 (bucket_count bounds); adds = λ _. total-none (λ _. 0) 0 (bucket_count bounds) (λ _ _. refl) }

pub buckets_of-ok : (bounds vs : List Float) → bounds_pass bounds ≡ true → BucketsOk bounds (buckets_of bounds vs)
buckets_of-ok bounds vs h = subst (BucketsOk bounds) (record_buckets-of bounds [] vs) (go (buckets_of bounds []) vs (fresh-buckets-ok bounds h))
  where
    go : (p : Buckets) (vs : List Float) → BucketsOk bounds p → BucketsOk bounds (record_buckets bounds p vs)
    go p [] k = k
    go p (v ∷ vs) k = go (record_bucket bounds p v) vs (record-buckets-ok bounds p v k)

-- ---- bounds that pass are the same as themselves
same_self : (bs : List Float) → no_nan bs ≡ true → same_bounds bs bs ≡ true
unfolding no_nan same_bounds
same_self [] h = refl
same_self (b ∷ bs) h =
    and_intro (eq b b) (same_bounds bs bs) (eq_self b (not-true (is_nan b) (and_left (not (is_nan b)) (no_nan bs) h)))
    (same_self bs (and_right (not (is_nan b)) (no_nan bs) h))

pub same-bounds : (bs : List Float) → bounds_pass bs ≡ true → same_bounds bs bs ≡ true
unfolding bounds_pass
same-bounds bs h =
    let l = leb (length bs) 159 in
    same_self bs (and_left (no_nan bs) (rising bs) (and_right l (no_nan bs && rising bs) h))
