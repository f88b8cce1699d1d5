-- What recording and merging write. Assumes nothing.
use Prim.Native.Nat.{ℕ, ◌+◌, ◌-◌, ◌^◌, ◌≤◌, ◌<◌}
use mathlib.Core.Path.{◌≡◌, refl, ap, sym, ◌∙◌}
use mathlib.Core.Logic.{⊎_elim}
use mathlib.Core.Bool.{true}
use mathlib.Core.List.{List, [], ◌∷◌, ◌++◌}
use native.Mathlib.Nat.{eq-zero-or-pos}
use native.Mathlib.Omega.{arith}
use lib.ListN.{length, take, drop, get_or, set, replicate, length-set, take-append-drop}
use lib.Seq.{length-take-le, get_or-take, set-append_left}
use lib.Ieee.{Float, binary64, add}
use borrow.Author.Tests.{leb-true, leb-false, le-leb, lt-leb, eq-eqb, ne_eqb}
use Rattle.laws.specs.Pick.{pick}
use Rattle.laws.specs.Counting.{total, most_count}
use Rattle.laws.proofs.Bools.{and_left, pick-left, pick-then, pick-right}
use Rattle.laws.proofs.Over.{over-snoc}
use Rattle.floats.specs.Answers.{lesser_of, greater_of}
use Rattle.rows.specs.Rows.{over, zeroed}
use Rattle.rows.proofs.Laws.{get_or-le-total}
use Rattle.rows.proofs.Adds.{over-zeroed}
use Rattle.points.specs.Explicit.{bucket_of, bucket_count, record_bucket, added, buckets_agree}
use Rattle.points.proofs.Explicit.{buckets-say, bucket-le, length-added}
use Rattle.explicit.specs.declared.Head.{Head}
use Rattle.laws.specs.Said.{refusal, success}
use Rattle.explicit.specs.Series.{buckets_in, refusal_of, outcome, recording, fresh_head, freshening}
use Rattle.explicit.proofs.Turns.{take_next}

-- ---- one more in a bucket

over-set : (n : ℕ) (xs : List ℕ) (j w : ℕ) → j < n → n ≤ length xs → set xs j w ≡ over (set (take n xs) j w) xs
unfolding over
over-set n xs j w g h =
    let k = length-take-le n xs h in
    let l : length (set (take n xs) j w) ≡ n = simp length-set k in
    sym (rw l (sym (set-append_left (take n xs) (drop n xs) j w (omega (arith, k))) ∙ ap (λ (t : List ℕ). set t j w) (take-append-drop n xs)))

module _ (bs : List Float) (xs : List ℕ) (v : Float) (h : bucket_count bs ≤ length xs) where
  abbrev n : ℕ
  n = bucket_count bs

  pub no-bucket : length bs ≡ 0 → xs ≡ over (record_bucket bs (buckets_in bs 0 xs) v).counts xs
  unfolding record_bucket over
  no-bucket z = go bs z
    where
      go : (bs : List Float) → length bs ≡ 0 → xs ≡ set (take (bucket_count bs) xs) (bucket_of bs v) (get_or (take (bucket_count bs) xs) (bucket_of bs v) 0 + 1) ++ drop (length (set (take (bucket_count bs) xs) (bucket_of bs v) (get_or (take (bucket_count bs) xs) (bucket_of bs v) 0 + 1))) xs
      go [] z = refl
      go (b ∷ bs) z = absurd (omega arith)

  pub bucket_in : 0 < length bs → bucket_of bs v < n
  bucket_in p = go bs p (bucket-le bs v)
    where
      go : (bs : List Float) → 0 < length bs → bucket_of bs v ≤ length bs → bucket_of bs v < bucket_count bs
      go [] p q = absurd (omega arith)
      go (b ∷ bs) p q = omega (arith, q)

  pub one_more : 0 < length bs → (k : ℕ) → k ≡ bucket_of bs v → set xs k (get_or xs k 0 + 1) ≡ over (record_bucket bs (buckets_in bs 0 xs) v).counts xs
  unfolding record_bucket
  one_more p k e =
      let j = bucket_of bs v in
      let g = bucket_in p in
      ap (λ k. set xs k (get_or xs k 0 + 1)) e
      ∙ over-set n xs j (get_or xs j 0 + 1) g h
      ∙ ap (λ w. over (set (take n xs) j (w + 1)) xs) (sym (get_or-take n xs j 0 g))

  pub one-fits : 0 < length bs → total (take n xs) < most_count → (k : ℕ) → k ≡ bucket_of bs v → get_or xs k 0 + 1 < 2 ^ 64
  one-fits p t k e =
      let q : k < n = rw e (bucket_in p) in
      omega (arith, t, get_or-le-total (take n xs) k, get_or-take n xs k 0 q)

-- ---- the call

pub record Ready (bs : List Float) (h : Head) (xs : List ℕ) : Type 0 where
  pub long : bucket_count bs ≤ length xs
  pub agree : buckets_agree bs (buckets_in bs h.count xs) ≡ true
  pub count : h.count < most_count

module _ (bs : List Float) (h : Head) (xs : List ℕ) (v : Float) where
  pub ready : refusal_of bs h xs v ≡ 0 → Ready bs h xs
  unfolding refusal_of
  ready e =
      let s = pick-left _ _ 12 (omega arith) e in
      let e₁ = pick-then _ _ 12 (omega arith) e in
      let e₂ = pick-then _ _ 6 (omega arith) e₁ in
      let a = pick-left _ _ 8 (omega arith) e₂ in
      let e₃ = pick-then _ _ 8 (omega arith) e₂ in
      let n = leb-false most_count h.count (pick-right _ 9 (omega arith) e₃) in
      record { long = leb-true (bucket_count bs) (length xs) s; agree = and_left _ _ a; count = n }

  pub total-below : Ready bs h xs → total (take (bucket_count bs) xs) < most_count
  total-below r =
      let k = buckets-say bs (buckets_in bs h.count xs) r.agree in
      ⊎_elim
      (λ (z : bucket_count bs ≡ 0). rw z (omega arith))
      (λ (p : 0 < bucket_count bs). omega (arith, k.adds p, r.count))
      (eq-zero-or-pos (bucket_count bs))

  pub refused_law : (n : ℕ) → n ≡ refusal_of bs h xs v → (n ≡ 0 → ⊥) → outcome (refusal n) xs ≡ recording bs h xs v
  unfolding recording pick
  refused_law n e z = rw (← e, ne_eqb n 0 z)

  pub accepted_law : (mn mx : Float) (ys : List ℕ) → refusal_of bs h xs v ≡ 0 → ys ≡ over (record_bucket bs (buckets_in bs 0 xs) v).counts xs
      → mn ≡ lesser_of h.min v → mx ≡ greater_of h.max v
      → outcome (success (record { count = h.count + 1; min = mn; max = mx; sum = add binary64 h.sum v })) ys ≡ recording bs h xs v
  unfolding recording pick record_bucket
  accepted_law mn mx ys e w a b =
      (λ j. record { answer = success (record { count = h.count + 1; min = a j; max = b j; sum = add binary64 h.sum v }); counts = w j })
      ∙ rw (eq-eqb (refusal_of bs h xs v) 0 e)

-- ---- counts added

added_next : (xs ys : List ℕ) (x y : ℕ) → length xs ≡ length ys → added (xs ++ x ∷ []) (ys ++ y ∷ []) ≡ added xs ys ++ (x + y) ∷ []
unfolding added
added_next [] [] x y h = refl
added_next [] (b ∷ ys) x y h = absurd (omega arith)
added_next (a ∷ xs) [] x y h = absurd (omega arith)
added_next (a ∷ xs) (b ∷ ys) x y h = ap (λ (l : List ℕ). (a + b) ∷ l) (added_next xs ys x y (omega arith))

module _ (xs ys us : List ℕ) (n i : ℕ) (more : i < n) (lx : n ≤ length xs) (ly : n ≤ length ys) (lu : n ≤ length us) where
  long : length (added (take i xs) (take i ys)) ≡ i
  long =
      let a = length-take-le i xs (omega arith) in
      let b = length-take-le i ys (omega arith) in
      length-added (take i xs) (take i ys) (a ∙ sym b) ∙ a

  pub added-turn : (cs : List ℕ) → cs ≡ over (added (take i xs) (take i ys)) us
      → set cs i (get_or xs i 0 + get_or ys i 0) ≡ over (added (take (i + 1) xs) (take (i + 1) ys)) us
  added-turn cs e =
      let a = get_or xs i 0 in
      let b = get_or ys i 0 in
      ap (λ (l : List ℕ). set l i (a + b)) e
      ∙ ap (λ k. set (over (added (take i xs) (take i ys)) us) k (a + b)) (sym long)
      ∙ over-snoc (added (take i xs) (take i ys)) us (a + b) (omega (arith, long))
      ∙ ap (λ (l : List ℕ). over l us) (sym (added_next (take i xs) (take i ys) a b (length-take-le i xs (omega arith) ∙ sym (length-take-le i ys (omega arith)))))
      ∙ (λ j. over (added (sym (take_next xs i 0 (omega arith)) j) (sym (take_next ys i 0 (omega arith)) j)) us)

  pub added-fits : total (take n xs) + total (take n ys) < 2 ^ 64 → get_or xs i 0 + get_or ys i 0 < 2 ^ 64
  added-fits t =
      omega (arith, get_or-le-total (take n xs) i, get_or-take n xs i 0 more, get_or-le-total (take n ys) i, get_or-take n ys i 0 more)

pub added_none : (xs ys us : List ℕ) → us ≡ over (added (take 0 xs) (take 0 ys)) us
unfolding added over
added_none xs ys us = refl

-- ---- a fresh series

zero-front : (k : ℕ) (xs : List ℕ) → k ≤ length xs → zeroed 0 k xs ≡ over (replicate k 0) xs
zero-front k xs h = let z : k - 0 ≡ k = omega arith in sym (rw z at (over-zeroed 0 k xs (omega arith) h))

pub fresh-short : (bs : List Float) (xs : List ℕ) → length xs < bucket_count bs → outcome (refusal 12) xs ≡ freshening bs xs
unfolding freshening pick
fresh-short bs xs h = rw (lt-leb (bucket_count bs) (length xs) h) refl

pub fresh-made : (bs : List Float) (xs : List ℕ) (k : ℕ) (ys : List ℕ) → k ≡ bucket_count bs → bucket_count bs ≤ length xs → ys ≡ zeroed 0 k xs
    → outcome (success fresh_head) ys ≡ freshening bs xs
unfolding freshening pick
fresh-made bs xs k ys e h f =
    ap (λ l. outcome (success fresh_head) l) (f ∙ ap (λ (k : ℕ). zeroed 0 k xs) e ∙ zero-front (bucket_count bs) xs h)
    ∙ rw (le-leb (bucket_count bs) (length xs) h) refl
