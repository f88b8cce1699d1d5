-- The loop over points that were judged fine: each is there, has room, and is put behind the others. Assumes nothing.
use Prim.Native.Nat.{ℕ, suc, ◌+◌, ◌-◌, ◌*◌, ◌≤◌, ◌<◌}
use mathlib.Core.Path.{◌≡◌, refl, sym, ap, ap₂, subst, ◌∙◌}
use mathlib.Core.List.{List, [], ◌∷◌}
use native.Mathlib.Omega.{arith}
use borrow.Author.Tests.{ltb-true}
use lib.Dec.{ltb}
use lib.ListN.{length, get_or}
use Rattle.laws.proofs.Bools.{and_left}
use Rattle.laws.proofs.Cases.{true-not-false}
use Rattle.listing.specs.declared.Cursor.{Cursor}
use Rattle.listing.specs.declared.Entry.{Entry}
use Rattle.pooling.specs.Lists.{Source, whole_at}
use Rattle.records.specs.Inner.{laid}
use Rattle.sheets.specs.Sheet.{info_for}
use Rattle.sheets.specs.declared.Header.{Header}
use Rattle.sheets.proofs.Lengths.{payload-whole, whole_length}
use Rattle.std.specs.Prelude.{Some, Option, None}
use Rattle.sheet_writing.specs.Inner.{origin, step_at, width_at, judged_from, point_words, put_from, put_sheet, Judgement}
use Rattle.sheet_writing.proofs.Steps.{present, step-passed, whole-next, from_more}
use Rattle.sheet_writing.proofs.Judged.{judged-fine, from-fine, from-few, judged-few}

same-entry : {d e : Entry} → Some d ≡ Some e → d ≡ e
same-entry h = cc

-- one point more
pub put-more : (m : ℕ) (at : Cursor) (info records k : ℕ) (x : Source) (s : List ℕ) (e : Entry) → whole_at at x ≡ Some e
    → put_from (suc m) at info records k x s
    ≡ put_from m e.next info records (k + width_at at e) x (laid info records k (point_words at (get_or x.list.sets at.place []) x e) s)
put-more m at info records k x s d h = ap (λ (f : Option Entry). elim f [
  | None ↦ s
  | Some e ↦ put_from m e.next info records (k + width_at at e) x (laid info records k (point_words at (get_or x.list.sets at.place []) x e) s)
]) h

-- ---- before turn i of n, at word k of a sheet of so many records: what is left is fine too

pub record Left (n i records : ℕ) (at : Cursor) (k : ℕ) (x : Source) : Type 0 where
  pub cells : ℕ
  pub fine : judged_from (n - i) at (k - 3) x ≡ Some cells
  pub fits : records * 3 ≡ cells + 3
  pub few : records ≤ 7297
  pub most : n ≤ 64
  pub place : at.place ≡ i
  pub left : i ≤ n
  pub start : 3 ≤ k

pub left-start : (h : Header) (n records : ℕ) (x : Source) (s : List ℕ) → Judgement n records x s → Left n 0 records origin 3 x
left-start h n records x s j =
    let f = judged-few x j.cells n j.fine in
    let p = judged-fine h n x j.cells j.fine in
    let e : n - 0 ≡ n = omega arith in
    record {
      cells = j.cells;
      fine = ap (λ (m : ℕ). judged_from m origin 0 x) e ∙ f.1;
      fits = omega (arith, j.counted, p.words, whole_length (payload-whole (record { header = h; points = p.es }) p.fine));
      few = omega (arith, j.counted, f.2);
      most = f.0;
      place = refl;
      left = omega arith;
      start = omega arith;
    }

module _ (n i records : ℕ) (at : Cursor) (k : ℕ) (x : Source) (l : Left n i records at k x) (h : i < n) where
  more : judged_from (suc (n - (i + 1))) at (k - 3) x ≡ Some l.cells
  more = let m : suc (n - (i + 1)) ≡ n - i = omega arith in ap (λ (j : ℕ). judged_from j at (k - 3) x) m ∙ l.fine

  -- there is a point
  pub turn-none : {A : Type 0} → whole_at at x ≡ None → A
  turn-none w =
      let t = from-fine x l.cells (n - (i + 1)) at (k - 3) more in
      true-not-false (sym (ap present (step-passed at x t.e t.step).whole) ∙ ap present w)

  module _ (e : Entry) (w : whole_at at x ≡ Some e) where
    pub turn_step : step_at at x ≡ Some e
    turn_step =
        let t = from-fine x l.cells (n - (i + 1)) at (k - 3) more in
        t.step ∙ ap (λ (d : Entry). Some d) (same-entry (sym (step-passed at x t.e t.step).whole ∙ w))

    rest : judged_from (n - (i + 1)) e.next (k - 3 + width_at at e) x ≡ Some l.cells
    rest = sym (from_more (n - (i + 1)) at (k - 3) x e turn_step) ∙ more

    -- its set's row is there
    pub turn-row : i < length x.list.sets
    turn-row =
        subst (λ (j : ℕ). j < length x.list.sets) l.place
        (ltb-true at.place (length x.list.sets) (and_left (ltb at.place (length x.list.sets)) _ (step-passed at x e turn_step).taken))

    -- it has room
    pub turn-room : k + width_at at e ≤ records * 3
    turn-room = omega (arith, (from-few x l.cells (n - (i + 1)) e.next (k - 3 + width_at at e) rest).0, l.fits, l.start)

    module _ (v : ℕ) (same : v ≡ width_at at e) where
      pub turn-left : Left n (i + 1) records e.next (k + v) x
      turn-left =
          let j : k + v - 3 ≡ k - 3 + width_at at e = omega (arith, l.start, same) in
          record {
            cells = l.cells;
            fine = ap (λ (u : ℕ). judged_from (n - (i + 1)) e.next u x) j ∙ rest;
            fits = l.fits;
            few = l.few;
            most = l.most;
            place = ap (λ (c : Cursor). c.place) (whole-next at x e w) ∙ ap (λ (u : ℕ). u + 1) l.place;
            left = omega arith;
            start = omega (arith, l.start);
          }

      pub turn-put : (info : ℕ) (s s' : List ℕ) → s' ≡ laid info records k (point_words at (get_or x.list.sets i []) x e) s
          → put_from (n - i) at info records k x s ≡ put_from (n - (i + 1)) e.next info records (k + v) x s'
      turn-put info s s' p =
          let m : n - i ≡ suc (n - (i + 1)) = omega arith in
          let q : laid info records k (point_words at (get_or x.list.sets at.place []) x e) s ≡ s' =
          ap (λ (j : ℕ). laid info records k (point_words at (get_or x.list.sets j []) x e) s) l.place ∙ sym p in
          ap (λ (j : ℕ). put_from j at info records k x s) m
          ∙ put-more (n - (i + 1)) at info records k x s e w
          ∙ ap₂ (λ (u : ℕ) (t : List ℕ). put_from (n - (i + 1)) e.next info records (k + u) x t) (sym same) q

-- ---- before the first turn, and after the last

pub put-start : (n : ℕ) (at : Cursor) (info records k : ℕ) (x : Source) (s : List ℕ) → put_from n at info records k x s ≡ put_from (n - 0) at info records k x s
put-start n at info records k x s = let e : n ≡ n - 0 = omega arith in ap (λ (m : ℕ). put_from m at info records k x s) e

module _ (h : Header) (n info records : ℕ) (x : Source) (s s₀ s₁ : List ℕ) where
  pub sheet-put : info ≡ info_for h n → s₀ ≡ laid info records 0 (h.start ∷ h.time ∷ 0 ∷ []) s → (i : ℕ) → n ≤ i → (at : Cursor) (k : ℕ)
      → put_from n origin info records 3 x s₀ ≡ put_from (n - i) at info records k x s₁ → s₁ ≡ put_sheet h n records x s
  unfolding put_sheet
  sheet-put a b i l at k c =
      let e : 0 ≡ n - i = omega arith in
      ap (λ (m : ℕ). put_from m at info records k x s₁) e
      ∙ sym c
      ∙ ap (put_from n origin info records 3 x) b
      ∙ ap (λ (j : ℕ). put_from n origin j records 3 x (laid j records 0 (h.start ∷ h.time ∷ 0 ∷ []) s)) a
