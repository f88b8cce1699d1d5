-- The tests of a slot's words, case by case, as the code makes them. Assumes nothing.
use Prim.Native.Nat.{ℕ, ◌≤◌, ◌<◌, ◌^◌}
use mathlib.Core.Path.{◌≡◌, refl, ap, sym, subst, ◌∙◌}
use mathlib.Core.Logic.{⊎_elim}
use mathlib.Core.Bool.{Bool, true, false, ◌&&◌}
use mathlib.Core.List.{List, []}
use native.Mathlib.Omega.{arith}
use lib.Dec.{leb, eqb}
use lib.ListN.{get_or}
use lib.Ieee.{Float}
use borrow.Author.Tests.{leb-true, le-leb, lt-leb}
use Rattle.laws.specs.Pick.{pick}
use Rattle.laws.specs.Said.{Said, refusal, success, number}
use Rattle.laws.proofs.Bools.{flag, and_left, and_right, pick_true, pick-false}
use Rattle.rows.specs.Parts.{part_at, put_at}
use Rattle.rows.specs.Recording.{Recording, after}
use Rattle.rows.proofs.Parts.{put_same}
use Rattle.laws.proofs.Answers.{not-refused}
use Rattle.exponential.specs.declared.Head.{Head}
use Rattle.exponential.specs.Series.{refusal_of, Outcome, recording}
use Rattle.exponential.specs.Runs.{fresh_head}
use Rattle.exponential_slots.specs.Cells.{Cells, most_bin, narrow, readable, head_in, head_of, head_at, written, recorded_at}
use Rattle.exponential_slots.specs.Inner.{figures_after, extremes_after}
use Rattle.laws.specs.Counting.{most_count}

module _ (f : List ℕ) (h : get_or f 0 0 < 2 ^ 64) where
  first : leb (get_or f 0 0) most_count ≡ true
  first = le-leb (get_or f 0 0) most_count (omega arith)

  pub wide-level : most_bin < get_or f 2 0 → narrow f ≡ false
  unfolding narrow
  wide-level p = rw (first, lt-leb (get_or f 2 0) most_bin p)

  module _ (p : get_or f 2 0 ≤ most_bin) where
    pub wide-pos : most_bin < get_or f 3 0 → narrow f ≡ false
    unfolding narrow
    wide-pos q = rw (first, le-leb (get_or f 2 0) most_bin p, lt-leb (get_or f 3 0) most_bin q)

    pub by-neg : get_or f 3 0 ≤ most_bin → narrow f ≡ leb (get_or f 5 0) most_bin
    unfolding narrow
    by-neg q = rw (first, le-leb (get_or f 2 0) most_bin p, le-leb (get_or f 3 0) most_bin q)

-- what words that are narrow are known to be
pub record Narrow (f : List ℕ) : Type 0 where
  pub count : get_or f 0 0 ≤ most_count
  pub level : get_or f 2 0 ≤ most_bin
  pub pos : get_or f 3 0 ≤ most_bin
  pub neg : get_or f 5 0 ≤ most_bin

pub narrow-says : (f : List ℕ) → narrow f ≡ true → Narrow f
unfolding narrow
narrow-says f h =
    let t₁ = leb (get_or f 0 0) most_count in
    let t₂ = leb (get_or f 2 0) most_bin in
    let t₃ = leb (get_or f 3 0) most_bin in
    let t₄ = leb (get_or f 5 0) most_bin in
    let h₂ = and_right t₁ (t₂ && (t₃ && t₄)) h in
    let h₃ = and_right t₂ (t₃ && t₄) h₂ in
    record {
      count = leb-true (get_or f 0 0) most_count (and_left t₁ (t₂ && (t₃ && t₄)) h);
      level = leb-true (get_or f 2 0) most_bin (and_left t₂ (t₃ && t₄) h₂);
      pos = leb-true (get_or f 3 0) most_bin (and_left t₃ t₄ h₃);
      neg = leb-true (get_or f 5 0) most_bin (and_right t₃ t₄ h₃);
    }

pub narrow-of : (f : List ℕ) → Narrow f → narrow f ≡ true
unfolding narrow
narrow-of f k =
    rw (le-leb (get_or f 0 0) most_count k.count, le-leb (get_or f 2 0) most_bin k.level, le-leb (get_or f 3 0) most_bin k.pos, le-leb (get_or f 5 0) most_bin k.neg)

-- ---- whether a series is there

pub reads_held : (updated : Bool) (f : List ℕ) → updated ≡ true → readable updated f ≡ narrow f
unfolding readable pick
reads_held updated f u = rw u

pub reads-fresh : (updated : Bool) (f : List ℕ) → updated ≡ false → readable updated f ≡ true
unfolding readable pick
reads-fresh updated f u = rw u

pub head-held : (top : ℕ) (updated : Bool) (f : List ℕ) (m : List Float) → updated ≡ true → head_of top updated f m ≡ head_in f m
unfolding head_of pick
head-held top updated f m u = rw u

pub head-fresh : (top : ℕ) (updated : Bool) (f : List ℕ) (m : List Float) → updated ≡ false → head_of top updated f m ≡ fresh_head top
unfolding head_of pick
head-fresh top updated f m u = rw u

-- ---- the call

-- what the series' call leaves, written into slot x
abbrev pub into : ℕ → ℕ → Cells → Outcome → Recording Cells
into size x c o = written size x c o.answer o.pos o.neg

module _ (size top x : ℕ) (updated : Bool) (c : Cells) (v : Float) where
  pub unread : readable updated (get_or c.figures x []) ≡ false → recorded_at size top x updated c v ≡ after 8 c
  unfolding recorded_at pick
  unread h = rw h

  pub called : readable updated (get_or c.figures x []) ≡ true
      → recorded_at size top x updated c v
      ≡ into size x c (recording size top (head_at top c x updated) (part_at size c.pos x) (part_at size c.neg x) v)
  unfolding recorded_at pick
  called h = rw h

-- a refusal leaves both rows
module _ (size top : ℕ) (h : Head) (xs ys : List ℕ) (v : Float) where
  abbrev Kept : Outcome → Type 0
  Kept o = (n : ℕ) → o.answer ≡ refusal n → (o.pos ≡ xs) × (o.neg ≡ ys)

  pub recording-kept : Kept (recording size top h xs ys v)
  unfolding recording
  recording-kept =
      ⊎_elim
      (λ (t : eqb (refusal_of size top h xs ys v) 0 ≡ true). subst Kept (sym (pick_true _ _ _ t)) (λ n r. absurd (not-refused _ n refl r)))
      (λ (t : eqb (refusal_of size top h xs ys v) 0 ≡ false). subst Kept (sym (pick-false _ _ _ t)) (λ n r. (refl, refl)))
      (flag (eqb (refusal_of size top h xs ys v) 0))

-- what the series' call and the writing leave
module _ (size x : ℕ) (c : Cells) (n : ℕ) (figures : List (List ℕ)) (extremes : List (List Float)) where
  by_answer : (a : Said Head) (xs ys : List ℕ) → ((k : ℕ) → a ≡ refusal k → (xs ≡ part_at size c.pos x) × (ys ≡ part_at size c.neg x))
      → n ≡ number a → figures ≡ figures_after x c.figures a → extremes ≡ extremes_after x c.extremes a
      → after n (record { figures = figures; extremes = extremes; pos = put_at size c.pos x xs; neg = put_at size c.neg x ys }) ≡ written size x c a xs ys
  by_answer (success h) xs ys k p q r =
      λ j. after (p j) (record { figures = q j; extremes = r j; pos = put_at size c.pos x xs; neg = put_at size c.neg x ys })
  by_answer (refusal m) xs ys k p q r =
      let e = ap (put_at size c.pos x) (k m refl).0 ∙ put_same size c.pos x in
      let f = ap (put_at size c.neg x) (k m refl).1 ∙ put_same size c.neg x in
      λ j. after (p j) (record { figures = q j; extremes = r j; pos = e j; neg = f j })

  pub written-by : (top : ℕ) (h : Head) (v : Float) (o : Outcome) → o ≡ recording size top h (part_at size c.pos x) (part_at size c.neg x) v
      → n ≡ number o.answer → figures ≡ figures_after x c.figures o.answer → extremes ≡ extremes_after x c.extremes o.answer
      → after n (record { figures = figures; extremes = extremes; pos = put_at size c.pos x o.pos; neg = put_at size c.neg x o.neg }) ≡ into size x c o
  written-by top h v o e p q r =
      let xs = part_at size c.pos x in
      let ys = part_at size c.neg x in
      by_answer o.answer o.pos o.neg (subst (Kept size top h xs ys v) (sym e) (recording-kept size top h xs ys v)) p q r
