-- The tests of bounds, counts and calls, case by case. Assumes nothing.
use Prim.Native.Nat.{ℕ, ◌+◌, ◌*◌, ◌/◌, ◌%◌, ◌≤◌, ◌<◌}
use mathlib.Core.Path.{◌≡◌, refl, sym, ◌∙◌}
use mathlib.Core.Logic.{⊎_elim}
use mathlib.Core.Bool.{Bool, true, false, ◌&&◌, and-false}
use mathlib.Core.List.{List, [], ◌∷◌}
use native.Mathlib.Omega.{arith}
use lib.Dec.{leb, eqb}
use lib.ListN.{length, take, get_or, length-take}
use lib.Seq.{length-take-le}
use lib.Ieee.{Float, nan, inf, fin, lt, is_nan}
use lib.Ieee.Scale.{finite}
use borrow.Author.Tests.{leb-true, le-leb, lt-leb, ne_eqb, eqb-true, eqb-false}
use Rattle.laws.specs.Pick.{pick}
use Rattle.laws.specs.Counting.{total, most_count}
use Rattle.laws.proofs.Bools.{flag, not-both, and_left, and_right}
use Rattle.points.specs.Explicit.{no_nan, rising, bounds_pass, bucket_count, Buckets, buckets_agree}
use Rattle.points.proofs.Explicit.{BucketsOk, buckets-say, buckets-agree}
use Rattle.exponential.proofs.Facts.{halves-same, halves-low, halves-high, eqb_iff}
use Rattle.explicit.specs.declared.Head.{Head}
use Rattle.explicit.specs.Series.{buckets_in, refusal_of}

-- ---- bounds

never-nan : (b : Float) → lt b nan ≡ false
unfolding lt
never-nan nan = refl
never-nan (inf s) = refl
never-nan (fin s m e) = refl

above-nothing : (b c : Float) → lt b c ≡ true → is_nan c ≡ false
unfolding is_nan
above-nothing b nan h = absurd (not-both (lt b nan) h (never-nan b))
above-nothing b (inf s) h = refl
above-nothing b (fin s m e) h = refl

-- rising bounds have no NaN behind the first
rising-numbers : (b : Float) (bs : List Float) → is_nan b ≡ false → rising (b ∷ bs) ≡ true → no_nan (b ∷ bs) ≡ true
unfolding no_nan rising
rising-numbers b [] n h = rw n refl
rising-numbers b (c ∷ bs) n h =
    rw n (rising-numbers c bs (above-nothing b c (and_left (lt b c) (rising (c ∷ bs)) h)) (and_right (lt b c) (rising (c ∷ bs)) h))

pub too_many : (bs : List Float) → 159 < length bs → false ≡ bounds_pass bs
unfolding bounds_pass
too_many bs h = rw (lt-leb (length bs) 159 h) refl

pub no-bounds : (bs : List Float) → length bs ≡ 0 → true ≡ bounds_pass bs
unfolding bounds_pass no_nan rising
no-bounds [] h = refl
no-bounds (b ∷ bs) h = absurd (omega arith)

pub nan-first : (bs : List Float) → length bs ≤ 159 → (length bs ≡ 0 → ⊥) → is_nan (get_or bs 0 nan) ≡ true → false ≡ bounds_pass bs
unfolding bounds_pass no_nan
nan-first [] h p n = absurd (p refl)
nan-first (b ∷ bs) h p n = rw (le-leb (length (b ∷ bs)) 159 h, n) refl

pub by-rising : (bs : List Float) → length bs ≤ 159 → (length bs ≡ 0 → ⊥) → is_nan (get_or bs 0 nan) ≡ false → rising bs ≡ bounds_pass bs
unfolding bounds_pass
by-rising [] h p n = absurd (p refl)
by-rising (b ∷ bs) h p n =
    ⊎_elim
    (λ (t : rising (b ∷ bs) ≡ true). rw (le-leb (length (b ∷ bs)) 159 h, rising-numbers b bs n t) refl)
    (λ (t : rising (b ∷ bs) ≡ false). rw (le-leb (length (b ∷ bs)) 159 h, t) (sym (and-false (no_nan (b ∷ bs)))))
    (flag (rising (b ∷ bs)))

pub few : (bs : List Float) → bounds_pass bs ≡ true → length bs ≤ 159
unfolding bounds_pass
few bs h = leb-true (length bs) 159 (and_left (leb (length bs) 159) (no_nan bs && rising bs) h)

pub count-few : (bs : List Float) → bounds_pass bs ≡ true → bucket_count bs ≤ 160
count-few [] h = omega arith
count-few (b ∷ bs) h = omega (arith, few (b ∷ bs) h)

-- ---- the total, in halves

pub adds-no : (count t l h : ℕ) → l + h * 4294967296 ≡ t → (count % 4294967296 ≡ l % 4294967296 → ⊥) → false ≡ eqb t count
adds-no count t l h s n = sym (ne_eqb t count (λ e. n (halves-low count l h (sym e ∙ sym s))))

pub adds-by : (count t l h : ℕ) → l + h * 4294967296 ≡ t → count % 4294967296 ≡ l % 4294967296 → eqb (count / 4294967296) (h + l / 4294967296) ≡ eqb t count
adds-by count t l h s n =
    eqb_iff (count / 4294967296) (h + l / 4294967296) t count (λ q. sym (halves-same count l h n q ∙ s)) (λ q. halves-high count l h (sym q ∙ sym s))

-- ---- agreement

module _ (bs : List Float) (count : ℕ) (xs : List ℕ) where
  abbrev held : Buckets
  held = buckets_in bs count xs

  pub refuse : (BucketsOk bs held → ⊥) → false ≡ buckets_agree bs held
  refuse n = ⊎_elim (λ (t : buckets_agree bs held ≡ true). absurd (n (buckets-say bs held t))) (λ (t : buckets_agree bs held ≡ false). sym t) (flag (buckets_agree bs held))

  pub too_short : length xs < bucket_count bs → false ≡ buckets_agree bs held
  too_short h = refuse (λ k. omega (arith, k.whole, length-take (bucket_count bs) xs))

  module _ (p : bounds_pass bs ≡ true) (h : bucket_count bs ≤ length xs) where
    pub no-buckets : bucket_count bs ≡ 0 → true ≡ buckets_agree bs held
    no-buckets z = sym (buckets-agree bs held (record { passes = p; whole = length-take-le (bucket_count bs) xs h; adds = λ q. absurd (omega arith) }))

    pub by_total : 0 < bucket_count bs → eqb (total (take (bucket_count bs) xs)) count ≡ buckets_agree bs held
    by_total q =
        let t = total (take (bucket_count bs) xs) in
        ⊎_elim
        (λ (e : eqb (total (take (bucket_count bs) xs)) count ≡ true). e ∙ sym (buckets-agree bs held (record { passes = p; whole = length-take-le (bucket_count bs) xs h; adds = λ _. eqb-true t count e })))
        (λ (e : eqb (total (take (bucket_count bs) xs)) count ≡ false). e ∙ refuse (λ k. eqb-false t count e (k.adds q)))
        (flag (eqb (total (take (bucket_count bs) xs)) count))

-- ---- the refusals of a call, in order

module _ (bs : List Float) (h : Head) (xs : List ℕ) (v : Float) where
  abbrev a? : Bool
  a? = buckets_agree bs (buckets_in bs h.count xs)

  pub short_row : length xs < bucket_count bs → 12 ≡ refusal_of bs h xs v
  unfolding refusal_of pick
  short_row p = rw (lt-leb (bucket_count bs) (length xs) p) refl

  module _ (p : bucket_count bs ≤ length xs) where
    pub not_finite : finite v ≡ false → 6 ≡ refusal_of bs h xs v
    unfolding refusal_of pick
    not_finite f = rw (le-leb (bucket_count bs) (length xs) p, f) refl

    module _ (f : finite v ≡ true) where
      pub disagrees : a? ≡ false → 8 ≡ refusal_of bs h xs v
      unfolding refusal_of pick
      disagrees a = rw (le-leb (bucket_count bs) (length xs) p, f, a) refl

      module _ (a : a? ≡ true) where
        pub bad-min : finite h.min ≡ false → 8 ≡ refusal_of bs h xs v
        unfolding refusal_of pick
        bad-min m = rw (le-leb (bucket_count bs) (length xs) p, f, a, m) refl

        module _ (m : finite h.min ≡ true) where
          pub bad-max : finite h.max ≡ false → 8 ≡ refusal_of bs h xs v
          unfolding refusal_of pick
          bad-max n = rw (le-leb (bucket_count bs) (length xs) p, f, a, m, n) refl

          module _ (n : finite h.max ≡ true) where
            by_count : pick (leb most_count h.count) 9 0 ≡ refusal_of bs h xs v
            unfolding refusal_of pick
            by_count = rw (le-leb (bucket_count bs) (length xs) p, f, a, m, n) refl

            pub full : most_count ≤ h.count → 9 ≡ refusal_of bs h xs v
            unfolding pick
            full e = rw (le-leb most_count h.count e) at by_count

            pub none : h.count < most_count → 0 ≡ refusal_of bs h xs v
            unfolding pick
            none e = rw (lt-leb most_count h.count e) at by_count
