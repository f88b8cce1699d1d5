-- A slot's head and the call, case by case, as the code makes them. Assumes nothing.
use Prim.Native.Nat.{ℕ}
use mathlib.Core.Path.{◌≡◌, refl, ap, sym, subst, ◌∙◌}
use mathlib.Core.Logic.{⊎_elim}
use mathlib.Core.Bool.{Bool, true, false}
use mathlib.Core.List.{List, []}
use lib.Dec.{eqb}
use lib.IntN.{ℤ}
use lib.ListN.{get_or}
use Rattle.laws.specs.Said.{Said, refusal, success, number}
use Rattle.laws.proofs.Bools.{flag, pick_true, pick-false}
use Rattle.laws.proofs.Answers.{not-refused}
use Rattle.rows.specs.Parts.{part_at, put_at}
use Rattle.rows.specs.Recording.{Recording, after}
use Rattle.rows.proofs.Parts.{put_same}
use Rattle.exponential_wholes.specs.declared.Head.{Head}
use Rattle.exponential_wholes.specs.Series.{fresh_head, refusal_of, Outcome, recording}
use Rattle.exponential_slots.specs.Cells.{counts_in, readable}
use Rattle.exponential_whole_slots.specs.Cells.{Cells, head_in, head_of, head_at, figures_after, extremes_after, written, recorded_at}

pub head-held : (top : ℕ) (updated : Bool) (f : List ℕ) (m : List ℤ) → updated ≡ true → head_of top updated f m ≡ head_in (counts_in f) m
unfolding head_of
head-held top updated f m u = pick_true _ _ _ u

pub head-fresh : (top : ℕ) (updated : Bool) (f : List ℕ) (m : List ℤ) → updated ≡ false → head_of top updated f m ≡ fresh_head top
unfolding head_of
head-fresh top updated f m u = pick-false _ _ _ u

-- what the series' call leaves, written into slot x
abbrev pub into : ℕ → ℕ → Cells → Outcome → Recording Cells
into size x c o = written size x c o.answer o.pos o.neg

module _ (size top : ℕ) (sums : Bool) (x : ℕ) (updated : Bool) (c : Cells) (v : ℤ) where
  pub unread : readable updated (get_or c.figures x []) ≡ false → recorded_at size top sums x updated c v ≡ after 8 c
  unfolding recorded_at
  unread h = pick-false _ _ _ h

  pub called : readable updated (get_or c.figures x []) ≡ true
      → recorded_at size top sums x updated c v
      ≡ into size x c (recording size top sums (head_at top c x updated) (part_at size c.pos x) (part_at size c.neg x) v)
  unfolding recorded_at
  called h = pick_true _ _ _ h

-- a refusal leaves both rows
module _ (size top : ℕ) (sums : Bool) (h : Head) (xs ys : List ℕ) (v : ℤ) where
  abbrev Kept : Outcome → Type 0
  Kept o = (n : ℕ) → o.answer ≡ refusal n → (o.pos ≡ xs) × (o.neg ≡ ys)

  pub recording-kept : Kept (recording size top sums h xs ys v)
  unfolding recording
  recording-kept =
      ⊎_elim
      (λ (t : eqb (refusal_of size top sums h xs ys v) 0 ≡ true). subst Kept (sym (pick_true _ _ _ t)) (λ n r. absurd (not-refused _ n refl r)))
      (λ (t : eqb (refusal_of size top sums h xs ys v) 0 ≡ false). subst Kept (sym (pick-false _ _ _ t)) (λ n r. (refl, refl)))
      (flag (eqb (refusal_of size top sums h xs ys v) 0))

-- what the series' call and the writing leave
module _ (size x : ℕ) (c : Cells) (n : ℕ) (figures : List (List ℕ)) (extremes : List (List ℤ)) where
  by_answer : (a : Said Head) (xs ys : List ℕ) → ((k : ℕ) → a ≡ refusal k → (xs ≡ part_at size c.pos x) × (ys ≡ part_at size c.neg x))
      → n ≡ number a → figures ≡ figures_after x c.figures a → extremes ≡ extremes_after x c.extremes a
      → after n (record { figures = figures; extremes = extremes; pos = put_at size c.pos x xs; neg = put_at size c.neg x ys }) ≡ written size x c a xs ys
  by_answer (success h) xs ys k p q r =
      λ j. after (p j) (record { figures = q j; extremes = r j; pos = put_at size c.pos x xs; neg = put_at size c.neg x ys })
  by_answer (refusal m) xs ys k p q r =
      let e = ap (put_at size c.pos x) (k m refl).0 ∙ put_same size c.pos x in
      let f = ap (put_at size c.neg x) (k m refl).1 ∙ put_same size c.neg x in
      λ j. after (p j) (record { figures = q j; extremes = r j; pos = e j; neg = f j })

  pub written-by : (top : ℕ) (sums : Bool) (h : Head) (v : ℤ) (o : Outcome) → o ≡ recording size top sums h (part_at size c.pos x) (part_at size c.neg x) v
      → n ≡ number o.answer → figures ≡ figures_after x c.figures o.answer → extremes ≡ extremes_after x c.extremes o.answer
      → after n (record { figures = figures; extremes = extremes; pos = put_at size c.pos x o.pos; neg = put_at size c.neg x o.neg }) ≡ into size x c o
  written-by top sums h v o e p q r =
      let xs = part_at size c.pos x in
      let ys = part_at size c.neg x in
      by_answer o.answer o.pos o.neg (subst (Kept size top sums h xs ys v) (sym e) (recording-kept size top sums h xs ys v)) p q r
