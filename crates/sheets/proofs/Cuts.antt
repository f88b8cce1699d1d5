-- The words of an entry, whatever follows them: its set's, its point's, its bounds and counts, and how many they are. Assumes nothing.
use Prim.Native.Nat.{ℕ, ◌+◌, ◌≤◌}
use mathlib.Core.Path.{◌≡◌, refl, sym, ap, ap₂, ◌∙◌}
use mathlib.Core.Bool.{true}
use mathlib.Core.List.{List, [], ◌∷◌, ◌++◌, map, append_assoc}
use borrow.Author.Tests.{eqb-true}
use lib.ListN.{length, take, drop}
use lib.Seq.{take_at, drop_at, drop-drop}
use Rattle.laws.specs.Pick.{pick}
use Rattle.floats.specs.Answers.{bits_of}
use Rattle.point.specs.Handing.{Stored}
use Rattle.point.specs.declared.Figures.{Figures}
use Rattle.point.specs.declared.Figures.TheVariants.{Exponential, Explicit}
use Rattle.sets.specs.Rows.{row_of}
use Rattle.listing.specs.Words.{figures_words, point_in, bounds_in}
use Rattle.listing.specs.Listed.{pos_len, neg_len}
use Rattle.listing.specs.declared.Span.{Span}
use Rattle.records.specs.Records.{padded, width}
use Rattle.sheets.specs.Entries.{Entry, own_span, head_of, entry_words, head_in, entry_len, bounds_fine, exact}
use Rattle.sheets.proofs.Lengths.{length-row, length-head, exact-bounds, exact-pos, exact-neg}

-- ---- where they are cut

module _ (e : Entry) (u : List ℕ) (few : length e.0 ≤ 8) where
  abbrev tail : List ℕ
  tail = padded (map bits_of e.1.bounds) ++ padded (e.1.pos ++ e.1.neg)

  parts : entry_words e ++ u ≡ row_of e.0 ++ (head_of e.1 ++ ((padded (map bits_of e.1.bounds) ++ padded (e.1.pos ++ e.1.neg)) ++ u))
  unfolding entry_words
  parts =
      append_assoc (row_of e.0) (head_of e.1 ++ tail) u
      ∙ ap (λ (l : List ℕ). row_of e.0 ++ l) (append_assoc (head_of e.1) tail u)

  pub cut-row : take 9 (entry_words e ++ u) ≡ row_of e.0
  cut-row = ap (take 9) parts ∙ take_at (row_of e.0) (head_of e.1 ++ (tail ++ u)) 9 (length-row e.0 few)

  behind-row : drop 9 (entry_words e ++ u) ≡ head_of e.1 ++ ((padded (map bits_of e.1.bounds) ++ padded (e.1.pos ++ e.1.neg)) ++ u)
  behind-row = ap (drop 9) parts ∙ drop_at (row_of e.0) (head_of e.1 ++ (tail ++ u)) 9 (length-row e.0 few)

  pub cut-head : head_in (entry_words e ++ u) ≡ head_of e.1
  cut-head = ap (take 12) behind-row ∙ take_at (head_of e.1) (tail ++ u) 12 (length-head e.1)

  pub cut-tail : drop 21 (entry_words e ++ u) ≡ padded (map bits_of e.1.bounds) ++ (padded (e.1.pos ++ e.1.neg) ++ u)
  cut-tail =
      sym (drop-drop 12 9 (entry_words e ++ u))
      ∙ ap (drop 12) behind-row
      ∙ drop_at (head_of e.1) (tail ++ u) 12 (length-head e.1)
      ∙ append_assoc (padded (map bits_of e.1.bounds)) (padded (e.1.pos ++ e.1.neg)) u

-- ---- what the words of a point say

span-own : (f : Figures) (n x y z u : ℕ) → bounds_fine f n ≡ true
    → bounds_in (figures_words f (record { start = 0; len = n }) ++ (x ∷ y ∷ z ∷ u ∷ [])) ≡ record { start = 0; len = n }
unfolding bounds_in pick
span-own (Exponential c) n x y z u h = ap (λ (k : ℕ). record { start = 0; len = k }) (sym (eqb-true n 0 h))
span-own (Explicit m) n x y z u h = refl

pub head-span : (x : Stored) → exact x ≡ true → bounds_in (head_of x) ≡ own_span x
head-span x h = span-own x.point.figures (length x.bounds) _ _ _ _ (exact-bounds x h)

-- words that say a point's figures and its bounds say how many words its entry has
pub len-by : (w : List ℕ) (x : Stored) → (point_in w).figures ≡ x.point.figures → bounds_in w ≡ own_span x → exact x ≡ true
    → entry_len w ≡ 21 + (width (length x.bounds) + width (length x.pos + length x.neg))
unfolding entry_len
len-by w x f b h =
    let p : pos_len (point_in w).figures (bounds_in w) ≡ length x.pos = ap₂ pos_len f b ∙ sym (exact-pos x h) in
    let q : neg_len (point_in w).figures ≡ length x.neg = ap neg_len f ∙ sym (exact-neg x h) in
    ap₂ (λ (i j : ℕ). 21 + (width i + width j)) (ap (λ (s : Span). s.len) b) (ap₂ ◌+◌ p q)
