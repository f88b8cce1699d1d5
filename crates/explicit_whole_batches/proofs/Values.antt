-- A value more of a series over i64 that agrees: by what it is refused, what it leaves, and that it agrees again. Assumes nothing.
use Prim.Native.Nat.{ℕ, ◌+◌, ◌≤◌, ◌<◌}
use mathlib.Core.Path.{◌≡◌, sym, ap, subst, ◌∙◌}
use mathlib.Core.Logic.{⊎_elim}
use mathlib.Core.Bool.{Bool, true, false}
use mathlib.Core.List.{List}
use native.Mathlib.Omega.{arith}
use lib.IntN.{ℤ}
use lib.ListN.{take}
use lib.Ieee.{Float}
use borrow.Author.Tests.{le-leb, lt-leb}
use Rattle.laws.specs.Counting.{total, most_count}
use Rattle.laws.proofs.Bools.{flag, pick_true, pick-false}
use Rattle.laws.proofs.Differences.{le_or-lt}
use Rattle.integers.specs.Answers.{nearest_of, lesser_of, greater_of, kept_sum}
use Rattle.std.specs.Prelude.{Some, None}
use Rattle.rows.specs.Recording.{Recording, after}
use Rattle.rows.specs.Rows.{over}
use Rattle.points.specs.Explicit.{Buckets, bucket_count, record_bucket}
use Rattle.points.specs.Any.{noted}
use Rattle.points.specs.Whole.{whole}
use Rattle.points.proofs.WholeSums.{sum-takes, sum-leaves}
use Rattle.kinds.specs.Wholes.{wholes}
use Rattle.explicit.specs.Series.{buckets_in}
use Rattle.explicit.proofs.Writes.{total-below}
use Rattle.explicit_wholes.specs.declared.Head.{Head}
use Rattle.explicit_wholes.specs.Series.{under, head_of, summary, fresh_head, refusal_of, recording}
use Rattle.explicit_whole_slots.proofs.Numbers.{zero-takes, refused_law, accepted-is, full-refused, none-refused, barred-refused}
use Rattle.explicit_batches.specs.Values.{Counted}
use Rattle.explicit_batches.proofs.Values.{counted_next}
use Rattle.explicit_whole_batches.specs.Values.{Series, leaving, step, raising}

-- ---- the head, case by case

module _ (sums : Bool) (h : Head) (v : ℤ) where
  abbrev one : Head
  one = head_of (h.count + 1) (noted whole sums (summary h) v)

  pub raise_9 : most_count ≤ h.count → after 9 h ≡ raising sums h v
  unfolding raising
  raise_9 e = sym (pick_true _ _ _ (le-leb most_count h.count e))

  module _ (e : h.count < most_count) where
    raise_16 : whole.takes sums h.sum v ≡ false → after 16 h ≡ raising sums h v
    unfolding raising
    raise_16 t = sym (pick-false _ _ _ (lt-leb most_count h.count e) ∙ pick-false _ _ _ t)

    raise_0 : whole.takes sums h.sum v ≡ true → after 0 one ≡ raising sums h v
    unfolding raising
    raise_0 t = sym (pick-false _ _ _ (lt-leb most_count h.count e) ∙ pick_true _ _ _ t)

    pub raise-outside : kept_sum sums h.sum v ≡ None → after 16 h ≡ raising sums h v
    raise-outside t = raise_16 (sum-leaves sums h.sum v t)

    pub raise-inside : (mn mx sm s : ℤ) → mn ≡ lesser_of h.min v → mx ≡ greater_of h.max v → sm ≡ s
        → kept_sum sums h.sum v ≡ Some s → after 0 (record { count = h.count + 1; min = mn; max = mx; sum = sm }) ≡ raising sums h v
    raise-inside mn mx sm s a b c t =
        let w = sum-takes sums h.sum v s t in
        (λ j. after 0 (record { count = h.count + 1; min = a j; max = b j; sum = (c ∙ w.sum) j })) ∙ raise_0 w.takes

  -- a head that was raised found room
  pub record Raised (o : Recording Head) : Type 0 where
    pub free : h.count < most_count
    pub takes : whole.takes sums h.sum v ≡ true
    pub head : o.cells ≡ one

  pub raised_is : (raising sums h v).no ≡ 0 → Raised (raising sums h v)
  raised_is z =
      ⊎_elim
      (λ (e : most_count ≤ h.count). not_0 9 (raise_9 e) (λ i. omega (arith, i)))
      (λ (e : h.count < most_count). ⊎_elim
      (λ (t : whole.takes sums h.sum v ≡ true). record { free = e; takes = t; head = ap (λ (o : Recording Head). o.cells) (sym (raise_0 e t)) })
      (λ (t : whole.takes sums h.sum v ≡ false). not_0 16 (raise_16 e t) (λ i. omega (arith, i)))
      (flag (whole.takes sums h.sum v)))
      (le_or-lt most_count h.count)
    where
      not_0 : {A : Type 0} (n : ℕ) → after n h ≡ raising sums h v → (n ≡ 0 → ⊥) → A
      not_0 n e d = absurd (d (ap (λ (o : Recording Head). o.no) e ∙ z))

-- a fresh head takes every i64
pub fresh-raised : (sums : Bool) (v : ℤ) → wholes.finite v ≡ true → (raising sums fresh_head v).no ≡ 0
fresh-raised sums v f = ap (λ (o : Recording Head). o.no) (sym (raise_0 sums fresh_head v (omega arith) (zero-takes sums v f)))

-- ---- a value more

module _ (bs : List Float) (sums : Bool) (s : Series) (v : ℤ) (g : Counted bs s.head.count s.counts) (f : wholes.finite v ≡ true) where
  abbrev h : Head
  h = s.head

  abbrev xs : List ℕ
  xs = s.counts

  abbrev q : Buckets
  q = record_bucket bs (buckets_in bs h.count xs) (nearest_of v)

  step_is : leaving s (recording bs sums h xs v) ≡ step bs sums s v
  unfolding step
  step_is = sym (pick_true _ _ _ f)

  only : (raising sums h v).no ≡ refusal_of bs sums h xs v
  only =
      ⊎_elim
      (λ (e : most_count ≤ h.count). said 9 (raise_9 sums h v e) (full-refused bs sums h xs v g.long f g.agree e))
      (λ (e : h.count < most_count). ⊎_elim
      (λ (t : whole.takes sums h.sum v ≡ true).
      ap (λ (o : Recording Head). o.no) (sym (raise_0 sums h v e t)) ∙ sym (none-refused bs sums h xs v g.long f g.agree e t))
      (λ (t : whole.takes sums h.sum v ≡ false). said 16 (raise_16 sums h v e t) (barred-refused bs sums h xs v g.long f g.agree e t))
      (flag (whole.takes sums h.sum v)))
      (le_or-lt most_count h.count)
    where
      said : (n : ℕ) → after n h ≡ raising sums h v → n ≡ refusal_of bs sums h xs v → (raising sums h v).no ≡ refusal_of bs sums h xs v
      said n e r = ap (λ (o : Recording Head). o.no) (sym e) ∙ r

  pub room-more : h.count < most_count → total (take (bucket_count bs) xs) < most_count
  room-more n = total-below bs (under h.count) xs (nearest_of v) (record { long = g.long; agree = g.agree; count = n })

  pub step-refused : (n : ℕ) → n ≡ (raising sums h v).no → (n ≡ 0 → ⊥) → after n s ≡ step bs sums s v
  step-refused n e d = ap (leaving s) (refused_law bs sums h xs v n (e ∙ only) d) ∙ step_is

  module _ (z : (raising sums h v).no ≡ 0) where
    abbrev left : Series
    left = record { head = head_of q.total (noted whole sums (summary h) v); counts = over q.counts xs }

    taken_is : after 0 left ≡ step bs sums s v
    taken_is = ap (leaving s) (sym (accepted-is bs sums h xs v (sym only ∙ z))) ∙ step_is

    pub step_0 : (step bs sums s v).no ≡ 0
    step_0 = ap (λ (r : Recording Series). r.no) (sym taken_is)

    -- y is the head then, ys the row
    pub step-taken : (y : Head) (ys : List ℕ) → y ≡ (raising sums h v).cells → ys ≡ over (record_bucket bs (buckets_in bs 0 xs) (nearest_of v)).counts xs
        → after 0 (record { head = y; counts = ys }) ≡ step bs sums s v
    unfolding record_bucket
    step-taken y ys e r = (λ j. after 0 (record { head = (e ∙ (raised_is sums h v z).head) j; counts = r j })) ∙ taken_is

    pub counted_step : Counted bs (step bs sums s v).cells.head.count (step bs sums s v).cells.counts
    counted_step =
        subst (λ (r : Recording Series). Counted bs r.cells.head.count r.cells.counts) taken_is (counted_next bs h.count xs (nearest_of v) g)
