-- A value more of a series that agrees: by what it is refused, what it leaves, and that it agrees again. Assumes nothing.
use Prim.Native.Nat.{ℕ, ◌+◌, ◌≤◌, ◌<◌}
use mathlib.Core.Path.{◌≡◌, sym, ap, subst, ◌∙◌}
use mathlib.Core.Logic.{⊎_elim}
use mathlib.Core.Bool.{true, false}
use mathlib.Core.List.{List, []}
use native.Mathlib.Omega.{arith}
use lib.ListN.{length, take, replicate, length-replicate}
use lib.Ieee.{Float}
use lib.Ieee.Scale.{finite}
use borrow.Author.Tests.{leb-false, le-leb, lt-leb}
use Rattle.laws.specs.Said.{number}
use Rattle.laws.specs.Counting.{total, most_count}
use Rattle.laws.proofs.Differences.{le_or-lt}
use Rattle.laws.proofs.Bools.{flag, pick_true, pick-false, pick-left, pick-then, pick-right}
use Rattle.floats.proofs.Choices.{finite-chosen}
use Rattle.rows.specs.Recording.{Recording, after}
use Rattle.rows.specs.Rows.{over}
use Rattle.rows.proofs.Laws.{length_over}
use Rattle.points.specs.Explicit.{Buckets, bucket_count, bounds_pass, buckets_of, record_bucket, buckets_agree}
use Rattle.points.specs.Values.{noted}
use Rattle.points.proofs.Explicit.{buckets-say, buckets-agree, record-buckets-ok, fresh-buckets-ok}
use Rattle.explicit.specs.declared.Head.{Head}
use Rattle.explicit.specs.Series.{Outcome, buckets_in, head_of, summary, refusal_of}
use Rattle.explicit.proofs.Cases.{not_finite, full, none}
use Rattle.explicit.proofs.Writes.{total-below, refused_law}
use Rattle.explicit.proofs.Listed.{accepted-is, reads, stays-long, fresh-is}
use Rattle.explicit_batches.specs.Values.{Series, head_after, step, Counted, Sound, barring}

-- ---- counts, whatever the numbers beside them

module _ (bs : List Float) (c : ℕ) (xs : List ℕ) (x : Float) (g : Counted bs c xs) where
  abbrev next : Buckets
  next = record_bucket bs (buckets_in bs c xs) x

  -- one more in a bucket
  pub counted_next : Counted bs next.total (over next.counts xs)
  counted_next =
      record {
        agree = ap (buckets_agree bs) (reads bs c xs x g.long)
            ∙ buckets-agree bs next (record-buckets-ok bs (buckets_in bs c xs) x (buckets-say bs (buckets_in bs c xs) g.agree));
        long = omega (arith, g.long, stays-long bs c xs x g.long);
      }

-- zeros
pub counted_none : (bs : List Float) (xs : List ℕ) → bounds_pass bs ≡ true → bucket_count bs ≤ length xs → Counted bs 0 (over (replicate (bucket_count bs) 0) xs)
counted_none bs xs p l =
    record {
      agree = ap (buckets_agree bs) (fresh-is bs xs) ∙ buckets-agree bs (buckets_of bs []) (fresh-buckets-ok bs p);
      long = omega (arith, l, length_over (replicate (bucket_count bs) 0) xs (omega (arith, length-replicate {A = ℕ} (bucket_count bs) 0)));
    }

-- ---- a value more

-- the numbers, case by case
module _ (count : ℕ) (v : Float) where
  pub bar_6 : finite v ≡ false → 6 ≡ barring count v
  unfolding barring
  bar_6 f = sym (pick-false (finite v) _ 6 f)

  module _ (f : finite v ≡ true) where
    pub bar_9 : most_count ≤ count → 9 ≡ barring count v
    unfolding barring
    bar_9 e = sym (pick_true (finite v) _ 6 f ∙ pick_true _ 9 0 (le-leb most_count count e))

    pub bar-none : count < most_count → 0 ≡ barring count v
    unfolding barring
    bar-none e = sym (pick_true (finite v) _ 6 f ∙ pick-false _ 9 0 (lt-leb most_count count e))

-- what is not barred is finite and finds room
module _ (count : ℕ) (v : Float) (z : barring count v ≡ 0) where
  pub finite-one : finite v ≡ true
  unfolding barring
  finite-one = pick-left (finite v) _ 6 (omega arith) z

  pub free : count < most_count
  unfolding barring
  free = leb-false most_count count (pick-right _ 9 (omega arith) (pick-then (finite v) _ 6 (omega arith) z))

module _ (bs : List Float) (s : Series) (v : Float) (g : Sound bs s) where
  abbrev h : Head
  h = s.head

  abbrev xs : List ℕ
  xs = s.counts

  abbrev q : Buckets
  q = record_bucket bs (buckets_in bs h.count xs) v

  only : barring h.count v ≡ refusal_of bs h xs v
  only =
      ⊎_elim
      (λ (f : finite v ≡ true). ⊎_elim
      (λ (e : most_count ≤ h.count). sym (bar_9 h.count v f e) ∙ full bs h xs v g.counted.long f g.counted.agree g.min g.max e)
      (λ (e : h.count < most_count). sym (bar-none h.count v f e) ∙ none bs h xs v g.counted.long f g.counted.agree g.min g.max e)
      (le_or-lt most_count h.count))
      (λ (f : finite v ≡ false). sym (bar_6 h.count v f) ∙ not_finite bs h xs v g.counted.long f)
      (flag (finite v))

  pub room-more : h.count < most_count → total (take (bucket_count bs) xs) < most_count
  room-more n = total-below bs h xs v (record { long = g.counted.long; agree = g.counted.agree; count = n })

  pub step-refused : (n : ℕ) → n ≡ barring h.count v → (n ≡ 0 → ⊥) → after n s ≡ step bs s v
  unfolding step
  step-refused n e d =
      ap (λ (o : Outcome). after (number o.answer) (record { head = head_after o.answer h; counts = o.counts })) (refused_law bs h xs v n (e ∙ only) d)

  module _ (z : 0 ≡ barring h.count v) where
    abbrev left : Series
    left = record { head = head_of q.total (noted (summary h) v); counts = over q.counts xs }

    taken_is : after 0 left ≡ step bs s v
    unfolding step
    taken_is =
        ap (λ (o : Outcome). after (number o.answer) (record { head = head_after o.answer h; counts = o.counts }))
        (sym (accepted-is bs h xs v (sym (z ∙ only))))

    pub step_0 : (step bs s v).no ≡ 0
    step_0 = ap (λ (r : Recording Series). r.no) (sym taken_is)

    -- y is the head then, ys the row
    pub step-taken : (y : Head) (ys : List ℕ) → y ≡ head_of (h.count + 1) (noted (summary h) v) → ys ≡ over (record_bucket bs (buckets_in bs 0 xs) v).counts xs
        → after 0 (record { head = y; counts = ys }) ≡ step bs s v
    unfolding record_bucket
    step-taken y ys e f = (λ j. after 0 (record { head = e j; counts = f j })) ∙ taken_is

    pub sound-next : Sound bs (step bs s v).cells
    sound-next =
        let f = finite-one h.count v (sym z) in
        subst (λ (r : Recording Series). Sound bs r.cells) taken_is
        (record {
          counted = counted_next bs h.count xs v g.counted;
          min = finite-chosen true h.min v g.min f;
          max = finite-chosen false h.max v g.max f;
        })
