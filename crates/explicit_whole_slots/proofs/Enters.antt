-- A value that enters a series or a fresh one: case by case, and what a refusal leaves. Assumes nothing.
use Prim.Native.Nat.{ℕ, ◌≤◌}
use mathlib.Core.Path.{◌≡◌, refl, ap, sym, subst, ◌∙◌}
use mathlib.Core.Logic.{⊎_elim}
use mathlib.Core.Bool.{Bool, true, false}
use mathlib.Core.List.{List, [], ◌++◌, append-nil}
use native.Mathlib.Omega.{arith}
use lib.Dec.{eqb}
use lib.ListN.{length, replicate, length-replicate, drop_of_length-le}
use lib.Ieee.{Float}
use lib.IntN.{ℤ}
use borrow.Author.Tests.{le-leb}
use Rattle.laws.specs.Pick.{pick}
use Rattle.laws.specs.Said.{Said, refusal, success, number}
use Rattle.laws.proofs.Bools.{flag, not-both, pick_true, pick-false}
use Rattle.rows.specs.Parts.{part_at, put_at}
use Rattle.rows.specs.Recording.{Recording}
use Rattle.rows.proofs.Parts.{part_length, put_same}
use Rattle.laws.proofs.Answers.{success?, value_in, not-refused}
use Rattle.rows.specs.Rows.{over}
use Rattle.rows.proofs.Laws.{length_over}
use Rattle.points.specs.Explicit.{bucket_count, bounds_pass, buckets_of, record_bucket, buckets_agree}
use Rattle.points.proofs.Explicit.{buckets-agree, fresh-buckets-ok}
use Rattle.explicit.specs.Series.{buckets_in}
use Rattle.explicit.proofs.Cases.{refuse}
use Rattle.explicit.proofs.Listed.{fresh-is}
use Rattle.explicit_wholes.specs.declared.Head.{Head}
use Rattle.explicit_wholes.specs.Series.{Outcome, outcome, fresh_head, freshening, refusal_of, accepted, recording}
use Rattle.integers.specs.Answers.{nearest_of}
use Rattle.kinds.specs.Wholes.{wholes}
use Rattle.explicit_whole_slots.specs.Cells.{Cells, Room, head_in, written, totals_after, extremes_after, begun, entering, recorded_at}
use Rattle.explicit_whole_slots.proofs.Numbers.{disagrees, none-refused, refused_law, accepted-is, zero-takes}

-- ---- a first value

module _ (bs : List Float) (sums : Bool) (xs : List ℕ) (long : bucket_count bs ≤ length xs) where
  abbrev pub zeros : List ℕ
  zeros = over (replicate (bucket_count bs) 0) xs

  fresh-made : freshening bs xs ≡ outcome (success fresh_head) zeros
  unfolding freshening pick
  fresh-made = rw (le-leb (bucket_count bs) (length xs) long) refl

  module _ (a : Said Head) (ys : List ℕ) (e : outcome a ys ≡ freshening bs xs) where
    made : outcome a ys ≡ outcome (success fresh_head) zeros
    made = e ∙ fresh-made

    pub first-never : (n : ℕ) → a ≡ refusal n → ⊥
    first-never n r = not-refused a n (ap (λ (o : Outcome). success? o.answer) made) r

    pub first_law : (h : Head) (v : ℤ) → a ≡ success h → recording bs sums h ys v ≡ begun bs sums xs v
    unfolding begun
    first_law h v r =
        let p : h ≡ fresh_head = sym (ap (value_in fresh_head) r) ∙ ap (λ (o : Outcome). value_in fresh_head o.answer) made in
        let q : ys ≡ zeros = ap (λ (o : Outcome). o.counts) made in
        λ j. recording bs sums (p j) (q j) v

  -- it is never refused under bounds that pass
  pub begun-taken : (v : ℤ) → bounds_pass bs ≡ true → wholes.finite v ≡ true
      → begun bs sums xs v ≡ accepted (record_bucket bs (buckets_in bs 0 zeros) (nearest_of v)) sums fresh_head zeros v
  unfolding begun
  begun-taken v p f =
      let agree : buckets_agree bs (buckets_in bs 0 zeros) ≡ true = ap (buckets_agree bs) (fresh-is bs xs) ∙ buckets-agree bs (buckets_of bs []) (fresh-buckets-ok bs p) in
      let l : bucket_count bs ≤ length zeros = omega (arith, long, length_over (replicate (bucket_count bs) 0) xs (omega (arith, length-replicate {A = ℕ} (bucket_count bs) 0))) in
      accepted-is bs sums fresh_head zeros v (none-refused bs sums fresh_head zeros v l f agree (omega arith) (zero-takes sums v f))

-- ---- the cases of entering

module _ (bs : List Float) (sums u : Bool) (h : Head) (xs : List ℕ) (v : ℤ) where
  pub enters-held : u ≡ true → entering bs sums u h xs v ≡ recording bs sums h xs v
  unfolding entering
  enters-held e = pick_true u _ _ e

  module _ (e : u ≡ false) where
    pub enters_bad : bounds_pass bs ≡ false → entering bs sums u h xs v ≡ outcome (refusal 8) xs
    unfolding entering
    enters_bad p = pick-false u _ _ e ∙ pick-false (bounds_pass bs) _ _ p

    pub enters-first : bounds_pass bs ≡ true → entering bs sums u h xs v ≡ begun bs sums xs v
    unfolding entering
    enters-first p = pick-false u _ _ e ∙ pick_true (bounds_pass bs) _ _ p

  -- ---- a refusal leaves the row

  abbrev Kept : Outcome → Type 0
  Kept o = (n : ℕ) → o.answer ≡ refusal n → o.counts ≡ xs

  recording-kept : Kept (recording bs sums h xs v)
  unfolding recording
  recording-kept =
      ⊎_elim
      (λ (t : eqb (refusal_of bs sums h xs v) 0 ≡ true). subst Kept (sym (pick_true _ _ _ t)) (λ n r. absurd (not-refused _ n refl r)))
      (λ (t : eqb (refusal_of bs sums h xs v) 0 ≡ false). subst Kept (sym (pick-false _ _ _ t)) (λ n r. refl))
      (flag (eqb (refusal_of bs sums h xs v) 0))

  pub entering-kept : bucket_count bs ≤ length xs → wholes.finite v ≡ true → Kept (entering bs sums u h xs v)
  entering-kept l f =
      ⊎_elim
      (λ (t : u ≡ true). subst Kept (sym (enters-held t)) recording-kept)
      (λ (t : u ≡ false). ⊎_elim
      (λ (p : bounds_pass bs ≡ true). subst Kept (sym (enters-first t p ∙ begun-taken bs sums xs l v p f)) (λ n r. absurd (not-refused _ n refl r)))
      (λ (p : bounds_pass bs ≡ false). subst Kept (sym (enters_bad t p)) (λ n r. refl))
      (flag (bounds_pass bs)))
      (flag u)

-- ---- the call

module _ (bs : List Float) (sums : Bool) (x : ℕ) (u : Bool) (s : Cells) (v : ℤ) where
  abbrev row : ℕ → List ℕ
  row k = part_at k s.counts x

  abbrev back : ℕ → List ℕ → List ℕ
  back k ys = put_at k s.counts x ys

  abbrev put : Outcome → Recording Cells
  put o = written bs x s o.answer o.counts

  module _ (r : Room bs s x) (f : wholes.finite v ≡ true) where
    abbrev none : List ℕ
    none = replicate (bucket_count bs) 0

    long : length (row (bucket_count bs)) ≡ bucket_count bs
    long = part_length (bucket_count bs) s.counts x r.counts

    many : length none ≡ bucket_count bs
    many = length-replicate {A = ℕ} (bucket_count bs) 0

    -- in a row of its own length nothing lies behind zeros
    all-zeros : zeros bs sums (row (bucket_count bs)) (omega (arith, long)) ≡ none
    unfolding over
    all-zeros = ap (λ (l : List ℕ). none ++ l) (drop_of_length-le (row (bucket_count bs)) {i = length none} (omega (arith, long, many))) ∙ append-nil none

    -- bounds that do not pass are refused by the series too
    fresh_bad : bounds_pass bs ≡ false → recording bs sums fresh_head none v ≡ outcome (refusal 8) none
    fresh_bad b =
        let no : buckets_agree bs (buckets_in bs 0 none) ≡ false = sym (refuse bs 0 none (λ k. not-both (bounds_pass bs) k.passes b)) in
        sym (refused_law bs sums fresh_head none v 8 (disagrees bs sums fresh_head none v (omega (arith, many)) f no) (λ z. omega (arith, z)))

    -- what enters the row is what is recorded at the slot
    entered : put (entering bs sums u (head_in s x) (row (bucket_count bs)) v) ≡ recorded_at bs sums x u s v
    unfolding recorded_at begun
    entered =
        ⊎_elim
        (λ (t : u ≡ true). ap put (enters-held bs sums u (head_in s x) (row (bucket_count bs)) v t)
        ∙ sym (λ j. put (recording bs sums (pick_true u (head_in s x) fresh_head t j) (pick_true u (row (bucket_count bs)) none t j) v)))
        (λ (t : u ≡ false). ⊎_elim
        (λ (p : bounds_pass bs ≡ true). ap put (enters-first bs sums u (head_in s x) (row (bucket_count bs)) v t p) ∙ ap (λ (ys : List ℕ). put (recording bs sums fresh_head ys v)) all-zeros)
        (λ (p : bounds_pass bs ≡ false). ap put (enters_bad bs sums u (head_in s x) (row (bucket_count bs)) v t p) ∙ sym (ap put (fresh_bad p)))
        (flag (bounds_pass bs))
        ∙ sym (λ j. put (recording bs sums (pick-false u (head_in s x) fresh_head t j) (pick-false u (row (bucket_count bs)) none t j) v)))
        (flag u)

    pub call : (a : Said Head) (ys : List ℕ) → outcome a ys ≡ entering bs sums u (head_in s x) (row (bucket_count bs)) v → written bs x s a ys ≡ recorded_at bs sums x u s v
    call a ys e = ap put e ∙ entered

  module _ (k : ℕ) (is : k ≡ bucket_count bs) (a : Said Head) (ys : List ℕ) (e : outcome a ys ≡ entering bs sums u (head_in s x) (row k) v) where
    there : outcome a ys ≡ entering bs sums u (head_in s x) (row (bucket_count bs)) v
    there = e ∙ ap (λ (k : ℕ). entering bs sums u (head_in s x) (row k) v) is

    pub call_kept : (n : ℕ) (totals : List ℕ) (extremes : List (List ℤ)) → n ≡ number a → totals ≡ totals_after x s.totals a → extremes ≡ extremes_after x s.extremes a
        → bucket_count bs ≤ length (row k) → Room bs s x → wholes.finite v ≡ true
        → record { no = n; cells = record { totals = totals; extremes = extremes; counts = back k ys } } ≡ recorded_at bs sums x u s v
    call_kept n totals extremes p q t l m f = go a refl p q t ∙ call m f a ys there
      where
        go : (b : Said Head) → a ≡ b → n ≡ number b → totals ≡ totals_after x s.totals b → extremes ≡ extremes_after x s.extremes b
            → record { no = n; cells = record { totals = totals; extremes = extremes; counts = back k ys } } ≡ written bs x s a ys
        go (success h) r p q t =
            (λ j. record { no = p j; cells = record { totals = q j; extremes = t j; counts = back (is j) ys } }) ∙ ap (λ (b : Said Head). written bs x s b ys) (sym r)
        go (refusal i) r p q t =
            let w : (entering bs sums u (head_in s x) (row k) v).counts ≡ row k = entering-kept bs sums u (head_in s x) (row k) v l f i (sym (ap (λ (o : Outcome). o.answer) e) ∙ r) in
            let same : back k ys ≡ s.counts = ap (back k) (ap (λ (o : Outcome). o.counts) e ∙ w) ∙ put_same k s.counts x in
            (λ j. record { no = p j; cells = record { totals = q j; extremes = t j; counts = same j } }) ∙ ap (λ (b : Said Head). written bs x s b ys) (sym r)
