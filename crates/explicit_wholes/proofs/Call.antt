-- The call over i64: what crate `explicit` makes of the counts, and the sum that takes the value or does not. Assumes nothing.
use Prim.Native.Nat.{ℕ}
use mathlib.Core.Path.{◌≡◌, refl, sym, ap, subst, ◌∙◌}
use mathlib.Core.Bool.{Bool, true, false}
use mathlib.Core.List.{List}
use borrow.Author.Tests.{eqb-true, eqb-false, eq-eqb, ne_eqb}
use lib.Dec.{T, leb, eqb}
use lib.ListN.{length, replicate}
use lib.IntN.{ℤ}
use lib.Ieee.{Float}
use Rattle.laws.specs.Pick.{pick}
use Rattle.laws.specs.Said.{Said, refusal, success}
use Rattle.laws.specs.Over.{over}
use Rattle.laws.proofs.Bools.{pick_true, pick-false}
use Rattle.integers.specs.Answers.{nearest_of, lesser_of, greater_of, kept_sum, last_number}
use Rattle.std.specs.Prelude.{Some, None}
use Rattle.points.specs.Explicit.{Buckets, bucket_count, record_bucket}
use Rattle.points.specs.Any.{start}
use Rattle.points.specs.Whole.{whole}
use Rattle.points.proofs.WholeSums.{sum-takes, sum-leaves, last_some}
use Rattle.explicit.specs.declared.Head as F
use Rattle.explicit.specs.Series as E
use Rattle.explicit.specs.Series.{buckets_in}
use Rattle.explicit_wholes.specs.declared.Head.{Head}
use Rattle.explicit_wholes.specs.Series.{under, refusal_of, Outcome, outcome, head_of, accepted, recording, fresh_head, freshening}

-- ---- what an answer says
abbrev number_in : {A : Type 0} → Said A → ℕ
number_in (refusal n) = n
number_in (success a) = 0

abbrev head_in : {A : Type 0} → A → Said A → A
head_in d (refusal n) = d
head_in d (success a) = a

abbrev is_refused : {A : Type 0} → Said A → Bool
is_refused (refusal n) = true
is_refused (success a) = false

no : {A : Type 0} → true ≡ false → A
no h = absurd (subst T h tt)

-- ---- what crate `explicit` left of the counts
module _ (bounds : List Float) (h : F.Head) (xs : List ℕ) (x : Float) where
  abbrev number : ℕ
  number = E.refusal_of bounds h xs x

  abbrev next : Buckets
  next = record_bucket bounds (buckets_in bounds h.count xs) x

  taken : number ≡ 0 → E.recording bounds h xs x ≡ E.accepted next h xs x
  unfolding E.recording
  taken e = pick_true _ _ _ (eq-eqb number 0 e)

  left : (number ≡ 0 → ⊥) → E.recording bounds h xs x ≡ E.outcome (refusal number) xs
  unfolding E.recording
  left e = pick-false _ _ _ (ne_eqb number 0 e)

  record Refused (n : ℕ) (xs' : List ℕ) : Type 0 where
    is : n ≡ number
    some : number ≡ 0 → ⊥
    row : xs' ≡ xs

  refused : (n : ℕ) (xs' : List ℕ) → E.outcome (refusal n) xs' ≡ E.recording bounds h xs x → Refused n xs'
  refused n xs' e = go (eqb number 0) refl
    where
      go : (b : Bool) → eqb number 0 ≡ b → Refused n xs'
      go true d = no (ap (λ o. is_refused o.answer) (e ∙ taken (eqb-true number 0 d)))
      go false d =
          let f = e ∙ left (eqb-false number 0 d) in
          record { is = ap (λ o. number_in o.answer) f; some = eqb-false number 0 d; row = ap (λ o. o.counts) f }

  record Recorded (g : F.Head) (xs' : List ℕ) : Type 0 where
    none : number ≡ 0
    count : g.count ≡ next.total
    row : xs' ≡ over next.counts xs

  recorded : (g : F.Head) (xs' : List ℕ) → E.outcome (success g) xs' ≡ E.recording bounds h xs x → Recorded g xs'
  recorded g xs' e = go (eqb number 0) refl
    where
      go : (b : Bool) → eqb number 0 ≡ b → Recorded g xs'
      go true d =
          let f = e ∙ taken (eqb-true number 0 d) in
          record { none = eqb-true number 0 d; count = ap (λ o. (head_in g o.answer).count) f; row = ap (λ o. o.counts) f }
      go false d = no (sym (ap (λ o. is_refused o.answer) (e ∙ left (eqb-false number 0 d))))

-- ---- between functions
-- a fresh head with the count that was written
abbrev pub begun : Said F.Head → Said Head
begun (refusal n) = refusal n
begun (success g) = success (head_of g.count (start whole))

-- the head with the count that was recorded, and the sum s
abbrev pub finished : Head → ℤ → ℤ → Said F.Head → Said Head
finished h v s (refusal n) = refusal n
finished h v s (success g) = success (record { count = g.count; min = lesser_of h.min v; max = greater_of h.max v; sum = s })

-- ---- THE CALL
module _ (bounds : List Float) (sums : Bool) (h : Head) (xs : List ℕ) (v : ℤ) where
  abbrev pub before : ℕ
  before = E.refusal_of bounds (under h.count) xs (nearest_of v)

  pub number-before : (before ≡ 0 → ⊥) → refusal_of bounds sums h xs v ≡ before
  unfolding refusal_of
  number-before e = pick-false _ _ _ (ne_eqb before 0 e)

  pub number-none : before ≡ 0 → whole.takes sums h.sum v ≡ true → refusal_of bounds sums h xs v ≡ 0
  unfolding refusal_of
  number-none e t = pick_true _ _ _ (eq-eqb before 0 e) ∙ pick_true _ _ _ t

  pub number-last : whole.takes sums h.sum v ≡ false → refusal_of bounds sums h xs v ≡ last_number before
  unfolding refusal_of
  number-last t = ap (λ n. pick (eqb before 0) n before) (pick-false _ 0 16 t)

  pub gives_up : (n : ℕ) → refusal_of bounds sums h xs v ≡ n → (n ≡ 0 → ⊥) → outcome (refusal n) xs ≡ recording bounds sums h xs v
  unfolding recording
  gives_up n e z =
      sym (pick-false _ _ _ (ne_eqb (refusal_of bounds sums h xs v) 0 (λ d. z (sym e ∙ d))) ∙ ap (λ m. outcome (refusal m) xs) e)

  pub goes_on : refusal_of bounds sums h xs v ≡ 0
      → recording bounds sums h xs v ≡ accepted (record_bucket bounds (buckets_in bounds h.count xs) (nearest_of v)) sums h xs v
  unfolding recording
  goes_on e = pick_true _ _ _ (eq-eqb (refusal_of bounds sums h xs v) 0 e)

  -- where the sum would leave i64
  pub outside_law : kept_sum sums h.sum v ≡ None → (n k : ℕ) → n ≡ before → k ≡ last_number n → outcome (refusal k) xs ≡ recording bounds sums h xs v
  outside_law t n k e d =
      ap (λ m. outcome (refusal m) xs) (d ∙ ap last_number e)
      ∙ gives_up (last_number before) (number-last (sum-leaves sums h.sum v t)) (last_some before)

  -- where another refusal comes first
  pub first_law : kept_sum sums h.sum v ≡ None → (n : ℕ) → n ≡ before → (n ≡ 0 → ⊥) → outcome (refusal n) xs ≡ recording bounds sums h xs v
  first_law t n e z = outside_law t n n e (sym (pick-false _ _ _ (ne_eqb n 0 z)))

  -- where it does not
  pub inside_law : (s : ℤ) (r : Said F.Head) (a : Said Head) (xs' : List ℕ) → kept_sum sums h.sum v ≡ Some s
      → E.outcome r xs' ≡ E.recording bounds (under h.count) xs (nearest_of v) → a ≡ finished h v s r
      → outcome a xs' ≡ recording bounds sums h xs v
  inside_law s (refusal n) a xs' t e f =
      let q = refused bounds (under h.count) xs (nearest_of v) n xs' e in
      (λ j. outcome (f j) (q.row j)) ∙ gives_up n (number-before q.some ∙ sym q.is) (λ z. q.some (sym q.is ∙ z))
  inside_law s (success g) a xs' t e f =
      let q = recorded bounds (under h.count) xs (nearest_of v) g xs' e in
      let w = sum-takes sums h.sum v s t in
      ap (λ b. outcome b xs') f
      ∙ (λ j. record {
        answer = success (record { count = q.count j; min = whole.lesser h.min v; max = whole.greater h.max v; sum = w.sum j });
        counts = q.row j;
      })
      ∙ sym (goes_on (number-none q.none w.takes))

-- ---- A FRESH SERIES
pub fresh_law : (bounds : List Float) (xs : List ℕ) (r : Said F.Head) (a : Said Head) (xs' : List ℕ) → E.outcome r xs' ≡ E.freshening bounds xs → a ≡ begun r
    → outcome a xs' ≡ freshening bounds xs
unfolding E.freshening freshening
fresh_law bounds xs r a xs' e f = ap (λ b. outcome b xs') f ∙ go (leb (bucket_count bounds) (length xs)) e
  where
    turned : E.Outcome → Outcome
    turned o = outcome (begun o.answer) o.counts

    go : (b : Bool) → E.outcome r xs' ≡ pick b (E.outcome (success E.fresh_head) (over (replicate (bucket_count bounds) 0) xs)) (E.outcome (refusal 12) xs)
        → outcome (begun r) xs' ≡ pick b (outcome (success fresh_head) (over (replicate (bucket_count bounds) 0) xs)) (outcome (refusal 12) xs)
    go true d = ap turned (d ∙ pick_true true _ _ refl) ∙ sym (pick_true true _ _ refl)
    go false d = ap turned (d ∙ pick-false false _ _ refl) ∙ sym (pick-false false _ _ refl)
