-- The outcomes of putting a point and of reading one, case by case. Assumes nothing.
use Prim.Native.Nat.{ℕ, ◌+◌, ◌-◌, ◌≤◌}
use mathlib.Core.Path.{◌≡◌, sym, ap, ap₂, ◌∙◌}
use mathlib.Core.Bool.{Bool, true, false, ◌&&◌}
use mathlib.Core.List.{List, [], ◌++◌}
use native.Mathlib.Omega.{arith}
use borrow.Author.Tests.{leb-true, le-leb, lt-leb}
use lib.Dec.{leb}
use lib.ListN.{length, get_or, set, take, drop}
use lib.Seq.{length-take-le}
use Rattle.laws.specs.Over.{over}
use Rattle.laws.proofs.Bools.{pick_true, pick-false, and_left, and_right, and_intro}
use Rattle.point.specs.declared.Point.{Point}
use Rattle.point.specs.declared.Figures.{Figures}
use Rattle.listing.specs.Words.{words_of, point_in, bounds_in, is_point}
use Rattle.listing.specs.Listed.{Output, pos_len, neg_len, behind, over_at, put_at, within, entry_in, point_at}
use Rattle.listing.specs.Inner.{Room, left}
use Rattle.listing.specs.declared.Cursor.{Cursor}
use Rattle.std.specs.Prelude.{Some, None}
use Rattle.listing.specs.declared.Span.{Span}
use Rattle.listing.proofs.Cases.{part-laid}

-- ---- reading

-- counts that lie within
pub within-says : (at : Cursor) (f : Figures) (b : Span) (pos neg : ℕ) → within at f b pos neg ≡ true
    → (at.pos + pos_len f b ≤ pos) × (at.neg + neg_len f ≤ neg)
within-says at f b pos neg h = (leb-true _ _ (and_left _ _ h), leb-true _ _ (and_right (leb (at.pos + pos_len f b) pos) _ h))

module _ (at : Cursor) (w : List ℕ) (pos neg : ℕ) where
  abbrev lies : Bool
  lies = within at (point_in w).figures (bounds_in w) pos neg

  pub entry-no : is_point w ≡ false → None ≡ entry_in at w pos neg
  unfolding entry_in
  entry-no h = sym (pick-false (is_point w && lies) _ _ (ap (λ (t : Bool). t && lies) h))

  module _ (p : Point) (b : Span) (e : p ≡ point_in w) (g : b ≡ bounds_in w) (y : is_point w ≡ true) where
    same-room : within at p.figures b pos neg ≡ within at (point_in w).figures (bounds_in w) pos neg
    same-room = ap₂ (λ (q : Point) (s : Span). within at q.figures s pos neg) e g

    pub entry-out : within at p.figures b pos neg ≡ false → None ≡ entry_in at w pos neg
    unfolding entry_in
    entry-out h = sym (pick-false (is_point w && lies) _ _ (ap (λ (t : Bool). t && lies) y ∙ sym same-room ∙ h))

    pub entry-is : within at p.figures b pos neg ≡ true → (next : Cursor) → next ≡ behind at p.figures b
        → Some (record { point = p; bounds = b; next = next }) ≡ entry_in at w pos neg
    unfolding entry_in
    entry-is h next n =
        ap (λ (c : Cursor). Some (record { point = p; bounds = b; next = c })) n
        ∙ ap₂ (λ (q : Point) (s : Span). Some (record { point = q; bounds = s; next = behind at q.figures s })) e g
        ∙ sym (pick_true (is_point w && lies) _ _ (and_intro (is_point w) lies y (sym same-room ∙ h)))

module _ (at : Cursor) (words : List (List ℕ)) (pos neg : ℕ) where
  pub nothing-there : length words ≤ at.place → None ≡ point_at at words pos neg
  unfolding point_at
  nothing-there h = sym (pick_true (leb (length words) at.place) _ _ (le-leb (length words) at.place h))

  pub words-there : at.place + 1 ≤ length words → entry_in at (get_or words at.place []) pos neg ≡ point_at at words pos neg
  unfolding point_at
  words-there h = sym (pick-false (leb (length words) at.place) _ _ (lt-leb (length words) at.place (omega arith)))

-- ---- putting

module _ (at : Cursor) (row : List ℕ) (p : Point) (b : Span) (xs ys : List ℕ) (o : Output) (r : Room at p.figures b xs ys o)
    (n m : ℕ) (k : n ≡ pos_len p.figures b) (l : m ≡ neg_len p.figures) where
  -- the counts of one sign
  laid : (a n j : ℕ) (cs us out : List ℕ) → n ≡ j → a + j ≤ length out → j ≤ length cs → us ≡ over (take n cs) (take (a + n - a) (drop a out))
      → take a out ++ (us ++ drop (a + n - a) (drop a out)) ≡ over_at a (take j cs) out
  laid a n j cs us out e h z q =
      ap (λ (u : List ℕ). take a out ++ (u ++ drop (a + n - a) (drop a out))) q
      ∙ part-laid a n (take n cs) out (length-take-le n cs (omega arith)) (omega arith)
      ∙ ap (λ (i : ℕ). over_at a (take i cs) out) e

  pub put-made : (ws us vs : List ℕ) → ws ≡ words_of p b
      → us ≡ over (take n xs) (take (at.pos + n - at.pos) (drop at.pos o.pos))
      → vs ≡ over (take m ys) (take (at.neg + m - at.neg) (drop at.neg o.neg))
      → left (record { place = at.place + 1; pos = at.pos + n; neg = at.neg + m }) (record {
        sets = set o.sets at.place row;
        words = set o.words at.place ws;
        pos = take at.pos o.pos ++ (us ++ drop (at.pos + n - at.pos) (drop at.pos o.pos));
        neg = take at.neg o.neg ++ (vs ++ drop (at.neg + m - at.neg) (drop at.neg o.neg));
      })
      ≡ left (behind at p.figures b) (put_at at row p b xs ys o)
  unfolding put_at
  put-made ws us vs w u v =
      let a = laid at.pos n (pos_len p.figures b) xs us o.pos k r.pos r.lent u in
      let c = laid at.neg m (neg_len p.figures) ys vs o.neg l r.neg r.lent_neg v in
      let s = ap (λ (x : List ℕ). set o.words at.place x) w in
      λ i.
      record {
        next = record { place = at.place + 1; pos = at.pos + k i; neg = at.neg + l i };
        output = record { sets = set o.sets at.place row; words = s i; pos = a i; neg = c i };
      }
