-- A value more in a series that agrees: it agrees again, and what refuses is what is left to ask for. Assumes nothing.
use Prim.Native.Nat.{ℕ}
use mathlib.Core.Path.{◌≡◌, refl, sym, ap, subst, ◌∙◌}
use mathlib.Core.Bool.{true, false}
use mathlib.Core.List.{List}
use mathlib.Core.Logic.{⊎_elim}
use native.Mathlib.Omega.{arith}
use lib.Dec.{eqb}
use lib.ListN.{length}
use lib.Ieee.{Float, binary64, add, fits}
use lib.Ieee.Scale.{finite}
use borrow.Author.Tests.{eq-eqb, ne_eqb}
use Rattle.laws.specs.Pick.{pick}
use Rattle.laws.specs.Said.{number}
use Rattle.laws.specs.Counting.{most_count}
use Rattle.laws.proofs.Bools.{flag}
use Rattle.floats.specs.Starts.{zero_float}
use Rattle.floats.specs.Answers.{lesser_of, greater_of}
use Rattle.floats.proofs.Choices.{finite-chosen}
use Rattle.rows.specs.Recording.{Recording}
use Rattle.rows.specs.Recording as R
use Rattle.rows.proofs.Laws.{length_over}
use Rattle.points.specs.Points.{record1}
use Rattle.points.specs.Values.{class_of}
use Rattle.many.proofs.Turns.{either}
use Rattle.exponential.specs.declared.Counts.{Counts}
use Rattle.exponential.specs.declared.Head.{Head}
use Rattle.exponential.specs.Series.{Outcome, read, refusal_of, recording, accepted}
use Rattle.exponential.specs.Inner.{Series, after, Written}
use Rattle.exponential.proofs.Call.{by_count, not_finite, finite-of, refused_law, accepted_law}
use Rattle.exponential.proofs.Classes.{ranged-of}
use Rattle.exponential.proofs.Stays.{next-ok, stays}
use Rattle.exponential.proofs.Lists.{accepted-is}
use Rattle.exponential_batches.specs.Series.{Sound, left_to_ask, step}

-- ---- what is left to ask for, by cases

pub asks_6 : (h : Head) (v : Float) → finite v ≡ false → left_to_ask h v ≡ 6
unfolding left_to_ask pick
asks_6 h v f = rw f

pub asks-full : (h : Head) (v : Float) → finite v ≡ true → left_to_ask h v ≡ pick (eqb h.counts.count most_count) 9 0
unfolding left_to_ask pick
asks-full h v f = rw f

pub asks_9 : (h : Head) (v : Float) → finite v ≡ true → h.counts.count ≡ most_count → left_to_ask h v ≡ 9
unfolding left_to_ask pick
asks_9 h v f e = rw (f, eq-eqb h.counts.count most_count e)

pub asks_0 : (h : Head) (v : Float) → finite v ≡ true → (h.counts.count ≡ most_count → ⊥) → left_to_ask h v ≡ 0
unfolding left_to_ask pick
asks_0 h v f e = rw (f, ne_eqb h.counts.count most_count e)

-- ---- a value more

module _ (size top : ℕ) (s : Series) (v : Float) where
  abbrev o : Outcome
  o = recording size top s.head s.pos s.neg v

  abbrev no : ℕ
  no = refusal_of size top s.head s.pos s.neg v

  -- refused: the number, and all as it was
  pub refused : (no ≡ 0 → ⊥) → step size top s v ≡ R.after no s
  unfolding step
  refused d = ap (λ (x : Outcome). R.after (number x.answer) (after x s)) (sym (refused_law size top s.head s.pos s.neg v no refl d))

  -- taken: the point that the definition says, laid over the rows
  pub taken : no ≡ 0 → step size top s v ≡ R.after 0 (after (accepted (record1 size (read s.head.counts s.pos s.neg) (class_of zero_float v)) s.head s.pos s.neg v) s)
  unfolding step
  taken e = ap (λ (x : Outcome). R.after (number x.answer) (after x s)) (accepted-is size top s.head s.pos s.neg v e)

  -- as the code makes it
  pub noted_law : (c : Counts) (mn mx : Float) (xs ys : List ℕ) → no ≡ 0
      → Written (record1 size (read s.head.counts s.pos s.neg) (class_of zero_float v)) s.pos s.neg c xs ys
      → mn ≡ lesser_of s.head.min v → mx ≡ greater_of s.head.max v
      → R.after 0 (record { head = record { counts = c; min = mn; max = mx; sum = add binary64 s.head.sum v }; pos = xs; neg = ys }) ≡ step size top s v
  unfolding step
  noted_law c mn mx xs ys e w a b =
      ap (λ (x : Outcome). R.after (number x.answer) (after x s)) (accepted_law size top s.head s.pos s.neg v c mn mx xs ys e w a b)

  pub number_is : (step size top s v).no ≡ no
  number_is = either no (λ e. ap (λ (x : Recording Series). x.no) (taken e) ∙ sym e) (λ d. ap (λ (x : Recording Series). x.no) (refused d))

  -- a number that is 0 was no refusal, and one that is not left everything as it was
  pub not-refused : (step size top s v).no ≡ 0 → no ≡ 0
  not-refused z = sym number_is ∙ z

  pub kept : ((step size top s v).no ≡ 0 → ⊥) → (step size top s v).cells ≡ s
  kept d =
      either no
      (λ e. absurd (d (ap (λ (x : Recording Series). x.no) (taken e))))
      (λ k. ap (λ (x : Recording Series). x.cells) (refused k))

  module _ (g : Sound size top s) where
    pub only : no ≡ left_to_ask s.head v
    only =
        ⊎_elim
        (λ (f : finite v ≡ true). by_count size top s.head s.pos s.neg v g.pos g.neg f g.agree g.min g.max ∙ sym (asks-full s.head v f))
        (λ (f : finite v ≡ false). not_finite size top s.head s.pos s.neg v g.pos g.neg f ∙ sym (asks_6 s.head v f))
        (flag (finite v))

    -- refused, as the code asks
    pub refused-by : (n : ℕ) → n ≡ left_to_ask s.head v → (n ≡ 0 → ⊥) → R.after n s ≡ step size top s v
    refused-by n p d =
        let e : no ≡ n = only ∙ sym p in
        ap (λ (m : ℕ). R.after m s) (sym e) ∙ sym (refused (λ z. d (sym e ∙ z)))

    -- a series that took a value agrees, over rows that are as long as they were
    pub sound : fits binary64 v ≡ true → no ≡ 0 → Sound size top (step size top s v).cells
    sound t e =
        let f = finite-of size top s.head s.pos s.neg v e in
        let w = ranged-of v t f in
        let ok = next-ok size top s.head.counts s.pos s.neg (class_of zero_float v) g.agree w in
        let p = record1 size (read s.head.counts s.pos s.neg) (class_of zero_float v) in
        subst (λ (x : Recording Series). Sound size top x.cells) (sym (taken e))
        (record {
          agree = stays size top s.head.counts s.pos s.neg (class_of zero_float v) g.agree w;
          min = finite-chosen true s.head.min v g.min f;
          max = finite-chosen false s.head.max v g.max f;
          pos = omega (arith, g.pos, length_over p.pos.counts s.pos (omega (arith, ok.pos.short, g.pos)));
          neg = omega (arith, g.neg, length_over p.neg.counts s.neg (omega (arith, ok.neg.short, g.neg)));
        })

    pub sound-after : (x : Recording Series) → x ≡ step size top s v → fits binary64 v ≡ true → no ≡ 0 → Sound size top x.cells
    sound-after x p t e = subst (λ (y : Recording Series). Sound size top y.cells) (sym p) (sound t e)

    pub lengths : fits binary64 v ≡ true → no ≡ 0
        → (length (step size top s v).cells.pos ≡ length s.pos) × (length (step size top s v).cells.neg ≡ length s.neg)
    lengths t e =
        let f = finite-of size top s.head s.pos s.neg v e in
        let ok = next-ok size top s.head.counts s.pos s.neg (class_of zero_float v) g.agree (ranged-of v t f) in
        let p = record1 size (read s.head.counts s.pos s.neg) (class_of zero_float v) in
        subst (λ (x : Recording Series). (length x.cells.pos ≡ length s.pos) × (length x.cells.neg ≡ length s.neg)) (sym (taken e))
        (length_over p.pos.counts s.pos (omega (arith, ok.pos.short, g.pos)), length_over p.neg.counts s.neg (omega (arith, ok.neg.short, g.neg)))
