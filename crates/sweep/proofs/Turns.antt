-- The turns of the loops. Assumes nothing.
use Prim.Native.Nat.{ℕ, suc, ◌+◌, ◌*◌, ◌/◌, ◌%◌, ◌-◌, ◌≤◌, ◌<◌}
use mathlib.Core.Path.{◌≡◌, refl, ap, sym, subst, ◌∙◌}
use mathlib.Core.Bool.{Bool, true, false, not, ◌&&◌}
use mathlib.Core.List.{List, [], ◌∷◌, ◌++◌, map, append-nil}
use native.Mathlib.Omega.{arith}
use native.Mathlib.Numerals.{add-one}
use borrow.Author.Tests.{eq-eqb, ne_eqb}
use lib.Dec.{eqb}
use lib.ListN.{length, get_or, set, length-append}
use mir.Val.{bool_byte}
use Rattle.laws.specs.Over.{over}
use Rattle.laws.specs.Pick.{pick}
use Rattle.laws.proofs.Bools.{pick_true, pick-false}
use Rattle.tally.specs.Map.{bit, plain}
use Rattle.sets.specs.Rows.{span, pair, size, set_of}
use Rattle.sets.proofs.Spans.{span-snoc, span-length}
use Rattle.directory.proofs.Rises.{span_in}
use Rattle.sweep.specs.Swept.{goes, staying, rank}
use Rattle.sweep.specs.Passes.{mark_of, mark_in, packed, lows, renumbered, moved_to, settled}
use Rattle.laws.proofs.Over.{length_over, over-snoc, over-behind, over_none}
use Rattle.sweep.proofs.Marks.{rank-more, renumbered_append, renumbered-few, renumbered-small, over-small, settled-past}
use Rattle.sweep.proofs.Packs.{edited-length, edited-at, edited-past, by_parts, packed-at, packed-length, packed-past, packed-low, packed-high, packed-set}

-- whether a slot stays
module _ (u b : ℕ) (c : Bool) where
  abbrev stays_if : Bool
  stays_if = not (eqb u 0 && (eqb b 0 && c))

  pub stays-used : (u ≡ 0 → ⊥) → true ≡ stays_if
  stays-used n = rw (ne_eqb u 0 n)

  pub stays-bound : u ≡ 0 → (b ≡ 0 → ⊥) → true ≡ stays_if
  stays-bound e n = rw (eq-eqb u 0 e, ne_eqb b 0 n)

  pub stays-other : u ≡ 0 → b ≡ 0 → not c ≡ stays_if
  stays-other e n = rw (eq-eqb u 0 e, eq-eqb b 0 n)

-- the empty set stays, and of the others those that are not plain
pub less-bit : (b : Bool) → eqb (bit b) 0 ≡ not b
less-bit true = refl
less-bit false = refl

pub empty-other : (row : List ℕ) → size row ≡ 0 → true ≡ not (plain (set_of row))
unfolding set_of
empty-other row e = ap (λ (k : ℕ). not (plain (map pair (span row 0 k)))) (sym e)

-- a rank
pub byte-bit : (b : Bool) → bool_byte b ≡ bit b
byte-bit true = refl
byte-bit false = refl

module _ (sets entries : List (List ℕ)) (x r k m : ℕ) (q : r ≡ rank (staying sets entries) x) where
  abbrev Ranks : ℕ → Type 0
  Ranks y =
      (s : Bool) → s ≡ not (goes (get_or sets y []) (get_or entries y [])) → k ≡ bit s → m ≡ pick s (r + k) 0 → (r + k ≡ rank (staying sets entries) y) × (m ≡ mark_of (staying sets entries) (suc x))

  ranks-suc : Ranks (suc x)
  ranks-suc s g e h =
      let p = staying sets entries in
      let n : r + k ≡ rank p (suc x) = ap (λ (i : ℕ). r + i) (e ∙ ap bit g) ∙ ap (λ (i : ℕ). i + bit (p (suc x))) q ∙ sym (rank-more p x) in
      (n, h ∙ ap (λ (b : Bool). pick b (r + k) 0) g ∙ ap (λ (i : ℕ). pick (p (suc x)) i 0) n)

  pub ranks : Ranks (x + 1)
  ranks = subst Ranks (sym (add-one x)) ranks-suc

one_more : (l : List ℕ) (v : ℕ) → length (l ++ (v ∷ [])) ≡ length l + 1
one_more l v = length-append l (v ∷ [])

pub places-length : (m : ℕ → ℕ) (o : List ℕ) (k : ℕ) → k ≤ length o → length (over (renumbered m (span o 0 k)) o) ≡ length o
places-length m o k h = length_over (renumbered m (span o 0 k)) o (omega (arith, renumbered-few m (span o 0 k), span-length o 0 k))

-- a place
module _ (m : ℕ → ℕ) (o order : List ℕ) (w i : ℕ) (v : order ≡ over (renumbered m (span o 0 i)) o) (q : w ≡ length (renumbered m (span o 0 i))) (h : i < length o) where
  abbrev R : List ℕ
  R = renumbered m (span o 0 i)

  few : length R ≤ i
  few = omega (arith, renumbered-few m (span o 0 i), span-length o 0 i)

  pub place-few : w ≤ i
  place-few = omega (arith, few)

  pub place_read : get_or order i 0 ≡ get_or o i 0
  place_read = ap (λ (l : List ℕ). get_or l i 0) v ∙ over-behind R o i 0 few

  next : renumbered m (span o 0 (suc i)) ≡ R ++ pick (eqb (m (get_or o i 0)) 0) [] (m (get_or o i 0) ∷ [])
  next =
      let z : 0 + i ≡ i = omega arith in
      ap (renumbered m) (span-snoc o 0 i ∙ ap (λ (j : ℕ). span o 0 i ++ (get_or o j 0 ∷ [])) z) ∙ renumbered_append m (span o 0 i) (get_or o i 0 ∷ [])

  abbrev Places : ℕ → ℕ → Type 0
  Places n j =
      (pick (eqb n 0) w (w + 1) ≡ length (renumbered m (span o 0 j))) × (pick (eqb n 0) order (set order w n) ≡ over (renumbered m (span o 0 j)) o)

  places-suc : Places (m (get_or o i 0)) (suc i)
  places-suc = go (eqb (m (get_or o i 0)) 0) refl
    where
      go : (b : Bool) → eqb (m (get_or o i 0)) 0 ≡ b → Places (m (get_or o i 0)) (suc i)
      go true e =
          let t : renumbered m (span o 0 (suc i)) ≡ R = next ∙ ap (λ (l : List ℕ). R ++ l) (pick_true (eqb (m (get_or o i 0)) 0) [] (m (get_or o i 0) ∷ []) e) ∙ append-nil R in
          (pick_true (eqb (m (get_or o i 0)) 0) w (w + 1) e ∙ q ∙ sym (ap length t), pick_true (eqb (m (get_or o i 0)) 0) order (set order w (m (get_or o i 0))) e ∙ v ∙ sym (ap (λ (l : List ℕ). over l o) t))
      go false e =
          let t : renumbered m (span o 0 (suc i)) ≡ R ++ (m (get_or o i 0) ∷ []) = next ∙ ap (λ (l : List ℕ). R ++ l) (pick-false (eqb (m (get_or o i 0)) 0) [] (m (get_or o i 0) ∷ []) e) in
          let s : length (R ++ (m (get_or o i 0) ∷ [])) ≡ w + 1 = one_more R (m (get_or o i 0)) ∙ ap (λ (j : ℕ). j + 1) (sym q) in (
            pick-false (eqb (m (get_or o i 0)) 0) w (w + 1) e ∙ sym s ∙ sym (ap length t),
            pick-false (eqb (m (get_or o i 0)) 0) order (set order w (m (get_or o i 0))) e
                ∙ ap (λ (l : List ℕ). set l w (m (get_or o i 0))) v
                ∙ ap (λ (j : ℕ). set (over R o) j (m (get_or o i 0))) q
                ∙ over-snoc R o (m (get_or o i 0)) (omega (arith, few))
                ∙ sym (ap (λ (l : List ℕ). over l o) t),
          )

  pub places : (n : ℕ) → n ≡ m (get_or o i 0) → Places n (i + 1)
  places n e = subst (λ (j : ℕ). Places n j) (sym (add-one i)) (subst (λ (k : ℕ). Places k (suc i)) (sym e) places-suc)

-- the places while they hold marks
pick-packed : (b : Bool) (m : ℕ → ℕ) (n : ℕ) (x y : List ℕ) → pick b (packed m n x) (packed m n y) ≡ packed m n (pick b x y)
unfolding pick
pick-packed true m n x y = refl
pick-packed false m n x y = refl

module _ (used : ℕ) (o : List ℕ) (lo : used ≤ length o) (small : used < 65536)
    (g : (k : ℕ) → k < used → (1 ≤ get_or o k 0 % 65536) × (get_or o k 0 % 65536 ≤ used)) (h : (x : ℕ) → 1 ≤ x → x ≤ used → mark_in o x ≤ used) where
  abbrev L : List ℕ
  L = lows used o

  -- the places up to i, under the new numbers
  abbrev pub X : ℕ → List ℕ
  X i = over (renumbered (mark_in o) (span (lows used o) 0 i)) (lows used o)

  low-long : length (lows used o) ≡ length o
  low-long = edited-length (λ i w. w % 65536) o used

  low-at : (j : ℕ) → j < used → get_or (lows used o) j 0 ≡ get_or o j 0 % 65536
  low-at j k = edited-at (λ i w. w % 65536) o used j k lo

  low-slot : (j : ℕ) → j < used → (1 ≤ get_or (lows used o) j 0) × (get_or (lows used o) j 0 ≤ used)
  low-slot j k = let w = g j k in (omega (arith, low-at j k, w.0), omega (arith, low-at j k, w.1))

  X-small : (i : ℕ) → i ≤ used → (j : ℕ) → j < used → get_or (X i) j 0 < 65536
  X-small i k j a =
      over-small (renumbered (mark_in o) (span (lows used o) 0 i)) (lows used o) 65536
      (renumbered-small (mark_in o) 65536 (span (lows used o) 0 i) (span_in (λ (q : ℕ). mark_in o q < 65536) (lows used o) 0 i (λ n b c. let w = low-slot n (omega arith) in omega (arith, h (get_or (lows used o) n 0) w.0 w.1))))
      j (omega (arith, (low-slot j a).1))

  X-long : (i : ℕ) → i ≤ used → length (X i) ≡ length o
  X-long i k = places-length (mark_in o) (lows used o) i (omega (arith, low-long)) ∙ low-long

  pub words_long : (i : ℕ) → i ≤ used → length (packed (mark_in o) used (X i)) ≡ length o
  words_long i k = packed-length (mark_in o) used (X i) (omega (arith, X-long i k)) ∙ X-long i k

  pub first : o ≡ packed (mark_in o) used (X 0)
  first =
      let n : used ≤ length (lows used o) = omega (arith, low-long) in
      by_parts used o (packed (mark_in o) used (X 0)) (sym (packed-length (mark_in o) used (X 0) (omega (arith, X-long 0 (omega arith))) ∙ X-long 0 (omega arith)))
      (λ j a. split (get_or o j 0) ∙ sym (packed-at (mark_in o) used (X 0) (omega (arith, X-long 0 (omega arith))) j a ∙ ap (λ (q : ℕ). q + 65536 * (get_or o j 0 / 65536)) (ap (λ (t : List ℕ). get_or t j 0) (over_none (lows used o)) ∙ low-at j a)))
      (λ j a. sym (packed-past (mark_in o) used (X 0) (omega (arith, X-long 0 (omega arith))) j a ∙ ap (λ (t : List ℕ). get_or t j 0) (over_none (lows used o)) ∙ edited-past (λ i w. w % 65536) o used j a))
    where
      split : (w : ℕ) → w ≡ w % 65536 + 65536 * (w / 65536)
      split w = omega arith

  module _ (order : List ℕ) (w i : ℕ) (v : order ≡ packed (mark_in o) used (X i)) (e : w ≡ length (renumbered (mark_in o) (span (lows used o) 0 i))) (a : i < used) where
    fits : used ≤ length (X i)
    fits = omega (arith, X-long i (omega arith))

    pub word-long : length order ≡ length o
    word-long = ap length v ∙ packed-length (mark_in o) used (X i) fits ∙ X-long i (omega arith)

    pub word-few : w ≤ i
    word-few = place-few (mark_in o) (lows used o) (X i) w i refl e (omega (arith, low-long))

    pub word_low : get_or order i 0 % 65536 ≡ get_or (lows used o) i 0
    word_low =
        ap (λ (t : List ℕ). get_or t i 0 % 65536) v
        ∙ packed-low (mark_in o) used (X i) fits (X-small i (omega arith)) i a
        ∙ place_read (mark_in o) (lows used o) (X i) w i refl e (omega (arith, low-long))

    module _ (q : ℕ) (c : q ≡ get_or order i 0 % 65536) where
      pub word-slot : (1 ≤ q) × (q ≤ used)
      word-slot = let s = low-slot i a in (omega (arith, c, word_low, s.0), omega (arith, c, word_low, s.1))

      word-high : get_or order (q - 1) 0 / 65536 ≡ mark_in o (get_or (lows used o) i 0)
      word-high =
          let z : suc (q - 1) ≡ q = omega (arith, word-slot.0) in
          ap (λ (t : List ℕ). get_or t (q - 1) 0 / 65536) v
          ∙ packed-high (mark_in o) used (X i) fits (X-small i (omega arith)) (q - 1) (omega (arith, word-slot.0, word-slot.1))
          ∙ ap (mark_in o) (z ∙ c ∙ word_low)

      pub words : (n : ℕ) → n ≡ get_or order (q - 1) 0 / 65536
          → (pick (eqb n 0) w (w + 1) ≡ length (renumbered (mark_in o) (span (lows used o) 0 (i + 1)))) × (pick (eqb n 0) order (set order w (n + 65536 * (get_or order w 0 / 65536))) ≡ packed (mark_in o) used (X (i + 1)))
      words n b =
          let t = places (mark_in o) (lows used o) (X i) w i refl e (omega (arith, low-long)) n (b ∙ word-high) in
          let k : w < used = omega (arith, word-few) in
          let u : get_or order w 0 / 65536 ≡ mark_in o (suc w) = ap (λ (x : List ℕ). get_or x w 0 / 65536) v ∙ packed-high (mark_in o) used (X i) fits (X-small i (omega arith)) w k in (
            t.0,
            ap (λ (x : ℕ). pick (eqb n 0) order (set order w (n + 65536 * x))) u
                ∙ ap (λ (x : List ℕ). pick (eqb n 0) x (set x w (n + 65536 * mark_in o (suc w)))) v
                ∙ ap (λ (x : List ℕ). pick (eqb n 0) (packed (mark_in o) used (X i)) x) (packed-set (mark_in o) used (X i) fits w n k)
                ∙ pick-packed (eqb n 0) (mark_in o) used (X i) (set (X i) w n)
                ∙ ap (packed (mark_in o) used) t.1,
          )

-- a row
module _ (c : List ℕ → List ℕ) (m : ℕ → ℕ) (l rows : List (List ℕ)) (x : ℕ) (v : rows ≡ settled c m x l) (g : (y : ℕ) → 1 ≤ y → y ≤ x → m y ≤ y) where
  row_read : get_or rows (x + 1) [] ≡ get_or l (x + 1) []
  row_read = ap (λ (t : List (List ℕ)). get_or t (x + 1) []) v ∙ settled-past c m l x (x + 1) g (omega arith)

  pub settles : (r : ℕ) → r ≡ m (suc x) → moved_to r (c (get_or rows (x + 1) [])) rows ≡ settled c m (x + 1) l
  settles r e =
      ap (λ (t : List ℕ). moved_to r (c t) rows) row_read
      ∙ ap (λ (t : List (List ℕ)). moved_to r (c (get_or l (x + 1) [])) t) v
      ∙ subst (λ (y : ℕ). moved_to r (c (get_or l y [])) (settled c m x l) ≡ settled c m y l) (sym (add-one x)) (ap (λ (i : ℕ). moved_to i (c (get_or l (suc x) [])) (settled c m x l)) e)
