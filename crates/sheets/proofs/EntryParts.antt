-- The words of an entry are four parts, each of its own length: the set's row, the point's head, its bounds, its counts. Assumes nothing.
use Prim.Native.Nat.{ℕ, ◌+◌, ◌-◌, ◌≤◌}
use mathlib.Core.Path.{◌≡◌, refl, sym, ap, ap₂, ◌∙◌}
use mathlib.Core.Bool.{Bool, true}
use mathlib.Core.List.{List, [], ◌∷◌, ◌++◌, map}
use native.Mathlib.Omega.{arith}
use borrow.Author.Tests.{eqb-true, eq-eqb}
use lib.Dec.{eqb}
use lib.ListN.{length, get_or, take, drop, replicate, length-drop, length-map, get_or-replicate}
use lib.Seq.{length-take-le, take-append_seam, drop-append_seam, take_at, drop_at, take-add, drop-drop, get_or-take, get_or-drop}
use lib.Ieee.{binary64, of_bits}
use Rattle.floats.specs.Answers.{bits_of}
use Rattle.point.specs.Handing.{Stored}
use Rattle.point.specs.declared.Point.{Point}
use Rattle.point.specs.declared.Figures.TheVariants.{Exponential, Explicit}
use Rattle.point.specs.declared.Figures.{Figures}
use Rattle.sets.specs.All.{allb}
use Rattle.sets.specs.Rows.{size, set_of, row_of}
use Rattle.sets.proofs.Alls.{allb-at, allb-yes}
use Rattle.sets.proofs.Spans.{span-part, span-zeros}
use Rattle.sets.proofs.Keyed.{length-set-of}
use Rattle.listing.specs.Words.{figures_words, words_of, bounds_in}
use Rattle.listing.specs.declared.Span.{Span}
use Rattle.records.specs.Records.{padded, width}
use Rattle.records.proofs.Padded.{padded-is, width-le}
use Rattle.records.proofs.Records.{length-padded}
use Rattle.sheets.specs.Entries.{head_of, entry_words, head_in, pos_in, neg_in, stored_from, entry_of, entry_len}
use Rattle.sheets.proofs.SetLaws.{length-row}

-- lists that join to the same, cut where the first ones end
append-cut : (a b c d : List ℕ) → length a ≡ length c → a ++ b ≡ c ++ d → (a ≡ c) × (b ≡ d)
append-cut a b c d h e = (
  sym (take-append_seam a b) ∙ ap (take (length a)) e ∙ take_at c d (length a) (sym h),
  sym (drop-append_seam a b) ∙ ap (drop (length a)) e ∙ drop_at c d (length a) (sym h),
)

-- ---- words and their filling

-- zeros behind m words that fill no whole record
abbrev pub zeros_in : List ℕ → ℕ → Bool
zeros_in r m = allb (width m - m) (λ i. eqb (get_or r (m + i) 0) 0)

module _ (xs r : List ℕ) (m : ℕ) (e : length xs ≡ m) (long : width m ≤ length r) where
  abbrev k : ℕ
  k = width m - m

  fill : padded xs ≡ xs ++ replicate k 0
  fill = padded-is xs ∙ ap (λ (j : ℕ). xs ++ replicate (width j - j) 0) e

  cut : take (width m) r ≡ take m r ++ take k (drop m r)
  cut = let w : width m ≡ m + k = omega (arith, width-le m) in ap (λ (j : ℕ). take j r) w ∙ take-add m k r

  pub padded-fits : xs ≡ take m r → zeros_in r m ≡ true → padded xs ≡ take (width m) r
  padded-fits a z =
      let b : replicate k 0 ≡ take k (drop m r) =
      sym (span-zeros r m k (λ j p q.
      let i : m + (j - m) ≡ j = omega arith in
      ap (λ (n : ℕ). get_or r n 0) (sym i) ∙ eqb-true (get_or r (m + (j - m)) 0) 0 (allb-at (λ i. eqb (get_or r (m + i) 0) 0) k z (j - m) (omega arith))))
      ∙ span-part r m k (omega (arith, width-le m)) in
      fill ∙ ap₂ ◌++◌ a b ∙ sym cut

  pub padded-says : padded xs ≡ take (width m) r → zeros_in r m ≡ true
  padded-says h =
      let l : length xs ≡ length (take m r) = e ∙ sym (length-take-le m r (omega (arith, width-le m))) in
      let b : replicate k 0 ≡ take k (drop m r) = (append-cut xs (replicate k 0) (take m r) (take k (drop m r)) l (sym fill ∙ h ∙ cut)).1 in
      allb-yes (λ i. eqb (get_or r (m + i) 0) 0) k
      (λ i p. eq-eqb (get_or r (m + i) 0) 0
      (sym (get_or-drop m r i 0) ∙ sym (get_or-take k (drop m r) i 0 p) ∙ ap (λ (u : List ℕ). get_or u i 0) (sym b) ∙ get_or-replicate k i 0 0 p))

-- ---- a head has twelve words

twelve : (f : Figures) (b : Span) (x y z u : ℕ) → length (figures_words f b ++ (x ∷ y ∷ z ∷ u ∷ [])) ≡ 12
twelve (Exponential c) b x y z u = refl
twelve (Explicit n) b x y z u = refl

pub head-twelve : (p : Point) (b : Span) → length (words_of p b) ≡ 12
head-twelve p b = twelve p.figures b _ _ _ _

-- ---- an entry

-- each part is written as the words that it was read from
pub record Parts (l : List ℕ) (w r : List ℕ) (x : Stored) : Type 0 where
  pub row : row_of (set_of (take 9 l)) ≡ take 9 l
  pub head : head_of x ≡ w
  pub bounds : padded (map bits_of x.bounds) ≡ take (width (bounds_in w).len) r
  pub counts : padded (x.pos ++ x.neg) ≡ take (width (pos_in w + neg_in w)) (drop (width (bounds_in w).len) r)

module _ (l : List ℕ) (long : entry_len (head_in l) ≤ length l) where
  abbrev w : List ℕ
  w = head_in l

  abbrev r : List ℕ
  r = drop 21 l

  abbrev x : Stored
  x = stored_from w r

  abbrev n : ℕ
  n = (bounds_in w).len

  abbrev B : ℕ
  B = width n

  abbrev m : ℕ
  m = pos_in w + neg_in w

  abbrev C : ℕ
  C = width m

  pub entry-long : 21 + (B + C) ≤ length l
  unfolding entry_len
  entry-long = long

  pub rest-long : B + C ≤ length r
  rest-long = omega (arith, entry-long, length-drop 21 l)

  pub counts-room : C ≤ length (drop B r)
  counts-room = omega (arith, rest-long, length-drop B r)

  pub bounds-long : length x.bounds ≡ n
  unfolding stored_from
  bounds-long = length-map (take n r) (of_bits binary64) ∙ length-take-le n r (omega (arith, rest-long, width-le n))

  pub pos-long : length x.pos ≡ pos_in w
  unfolding stored_from
  pos-long = length-take-le (pos_in w) (drop B r) (omega (arith, counts-room, width-le m))

  pub neg-long : length x.neg ≡ neg_in w
  unfolding stored_from
  neg-long =
      length-take-le (neg_in w) (drop (pos_in w) (drop B r)) (omega (arith, counts-room, width-le m, length-drop (pos_in w) (drop B r)))

  -- the counts of both rows are the first words behind the bounds
  pub counts-are : x.pos ++ x.neg ≡ take m (drop B r)
  unfolding stored_from
  counts-are = sym (take-add (pos_in w) (neg_in w) (drop B r))

  pub counts-long : length (x.pos ++ x.neg) ≡ m
  counts-long = ap length counts-are ∙ length-take-le m (drop B r) (omega (arith, counts-room, width-le m))

  pub words_long : length (map bits_of x.bounds) ≡ n
  words_long = length-map x.bounds bits_of ∙ bounds-long

  written : entry_words (entry_of l)
      ≡ row_of (set_of (take 9 l)) ++ (head_of x ++ (padded (map bits_of x.bounds) ++ padded (x.pos ++ x.neg)))
  unfolding entry_words entry_of
  written = refl

  whole : take (entry_len w) l ≡ take 9 l ++ (w ++ (take B r ++ take C (drop B r)))
  unfolding entry_len
  whole =
      let a : 21 + (B + C) ≡ 9 + (12 + (B + C)) = omega arith in
      ap (λ (j : ℕ). take j l) a
      ∙ take-add 9 (12 + (B + C)) l
      ∙ ap (λ (u : List ℕ). take 9 l ++ u)
      (take-add 12 (B + C) (drop 9 l)
      ∙ ap (λ (u : List ℕ). w ++ u) (ap (take (B + C)) (drop-drop 12 9 l) ∙ take-add B C r))

  pub parts-joined : Parts l w r x → entry_words (entry_of l) ≡ take (entry_len w) l
  parts-joined t =
      written
      ∙ ap₂ ◌++◌ t.row (ap₂ ◌++◌ t.head (ap₂ ◌++◌ t.bounds t.counts))
      ∙ sym whole

  pub parts_cut : size (take 9 l) ≤ 8 → entry_words (entry_of l) ≡ take (entry_len w) l → Parts l w r x
  parts_cut few h =
      let P = padded (map bits_of x.bounds) in
      let Q = padded (x.pos ++ x.neg) in
      let a : length (row_of (set_of (take 9 l))) ≡ length (take 9 l) =
      omega (arith, length-row (set_of (take 9 l)), length-set-of (take 9 l), length-take-le 9 l (omega (arith, entry-long)), few) in
      let b : length (head_of x) ≡ length w =
      head-twelve x.point _ ∙ sym (length-take-le 12 (drop 9 l) (omega (arith, entry-long, length-drop 9 l))) in
      let c : length P ≡ length (take B r) =
      length-padded (map bits_of x.bounds) ∙ ap width words_long ∙ sym (length-take-le B r (omega (arith, rest-long))) in
      let t = append-cut (row_of (set_of (take 9 l))) (head_of x ++ (P ++ Q)) (take 9 l) (w ++ (take B r ++ take C (drop B r))) a (sym written ∙ h ∙ whole) in
      let u = append-cut (head_of x) (P ++ Q) w (take B r ++ take C (drop B r)) b t.1 in
      let v = append-cut P Q (take B r) (take C (drop B r)) c u.1 in
      record { row = t.0; head = u.0; bounds = v.0; counts = v.1 }
