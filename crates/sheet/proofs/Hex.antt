-- Digits written and read, one byte after another. Assumes nothing.
use Prim.Native.Nat.{ℕ, zero, suc, ◌+◌, ◌-◌, ◌*◌, ◌/◌, ◌%◌, ◌≤◌, ◌<◌}
use mathlib.Core.Path.{◌≡◌, refl, sym, ap, ◌∙◌}
use mathlib.Core.Bool.{Bool, true, false, ◌&&◌}
use mathlib.Core.List.{List, [], ◌∷◌}
use mathlib.Core.Logic.{⊎_elim}
use native.Mathlib.Omega.{arith}
use native.Mathlib.Nat.{add-zero, sub-zero}
use lib.Dec.{eqb}
use lib.ListN.{length, get_or, take, drop, set, drop_of_length-le}
use lib.Seq.{sets, drop-drop}
use borrow.Author.Tests.{eqb-true, ltb-true, lt-ltb, le-ltb, le-leb, lt-leb}
use Rattle.laws.specs.Lists.{All}
use Rattle.laws.specs.Pick.{pick}
use Rattle.laws.specs.Tests.{all}
use Rattle.laws.proofs.Bools.{and_left, and_right, pick_true, pick-false}
use Rattle.laws.proofs.Differences.{le_or-lt}
use Rattle.text.specs.Numbers.{digit_of, glyph_of}
use Rattle.text.proofs.Spelling.{from-here}
use Rattle.lines.specs.Gathered.{Text, ◌behind◌}
use Rattle.lines.proofs.Gathering.{then}
use Rattle.sheet.specs.Digits.{hex_of, record_line, record_lines, is_digit, is_record, bytes_in}

-- ---- written

module _ (bs : List ℕ) (i : ℕ) (t : Text) where
  pub hex-turn : {u v : Text} → i < length bs → (x y : ℕ) → x ≡ glyph_of (get_or bs i 0 / 16) → y ≡ glyph_of (get_or bs i 0 % 16)
      → u ≡ (x ∷ [] behind t) → v ≡ (y ∷ [] behind u) → (hex_of (drop (i + 1) bs) behind v) ≡ (hex_of (drop i bs) behind t)
  unfolding hex_of ◌behind◌
  hex-turn h x y d e p q =
      ap (λ (w : Text). hex_of (drop (i + 1) bs) behind w) (q ∙ ap (λ (w : Text). y ∷ [] behind w) p)
      ∙ (λ j. hex_of (drop (i + 1) bs) behind (e j ∷ [] behind (d j ∷ [] behind t)))
      ∙ sym (ap (λ (l : List ℕ). hex_of l behind t) (from-here i bs h))

  pub hex-end : length bs ≤ i → (hex_of (drop i bs) behind t) ≡ t
  unfolding hex_of ◌behind◌
  hex-end h = ap (λ (l : List ℕ). hex_of l behind t) (drop_of_length-le bs h)

-- the lines of the records from record k on, of n
unfoldable pub lines_from : ℕ → ℕ → List ℕ → List ℕ
lines_from n k bs = record_lines (n - k) (drop (k * 32) bs)

module _ (n k : ℕ) (bs : List ℕ) (t : Text) where
  pub lines_start : (lines_from n 0 bs behind t) ≡ (record_lines n bs behind t)
  unfolding lines_from
  lines_start = ap (λ (j : ℕ). record_lines j bs behind t) (sub-zero n)

  pub lines_end : n ≤ k → (lines_from n k bs behind t) ≡ t
  unfolding lines_from record_lines ◌behind◌
  lines_end h =
      let e : n - k ≡ 0 = omega arith in
      ap (λ (j : ℕ). record_lines j (drop (k * 32) bs) behind t) e

  pub lines-turn : {u : Text} → k < n → u ≡ (record_line (take 32 (drop (k * 32) bs)) behind t) → (lines_from n (k + 1) bs behind u) ≡ (lines_from n k bs behind t)
  unfolding lines_from record_lines
  lines-turn {u} h p =
      let e : n - k ≡ suc (n - (k + 1)) = omega arith in
      let f : (k + 1) * 32 ≡ k * 32 + 32 = omega arith in
      let d = drop-drop 32 (k * 32) bs in
      ap (λ (j : ℕ). record_lines (n - (k + 1)) (drop j bs) behind u) f
      ∙ ap (λ (l : List ℕ). record_lines (n - (k + 1)) l behind u) (sym d)
      ∙ then (record_line (take 32 (drop (k * 32) bs))) (record_lines (n - (k + 1)) (drop 32 (drop (k * 32) bs))) t p refl
      ∙ sym (ap (λ (j : ℕ). record_lines j (drop (k * 32) bs) behind t) e)

-- ---- read

module _ (b : ℕ) where
  pub below-digits : b < 48 → 16 ≡ digit_of b
  unfolding digit_of pick
  below-digits h = simp (lt-ltb b 48 h) refl

  module _ (h : 48 ≤ b) where
    pub a-decimal : b ≤ 57 → b - 48 ≡ digit_of b
    unfolding digit_of pick
    a-decimal g = simp (le-ltb b 48 h, le-leb b 57 g) refl

    module _ (g : 57 < b) where
      pub between-digits : b < 65 → 16 ≡ digit_of b
      unfolding digit_of pick
      between-digits k = simp (le-ltb b 48 h, lt-leb b 57 g, lt-ltb b 65 k) refl

      module _ (k : 65 ≤ b) where
        pub a-letter : b ≤ 70 → b - 55 ≡ digit_of b
        unfolding digit_of pick
        a-letter l = simp (le-ltb b 48 h, lt-leb b 57 g, le-ltb b 65 k, le-leb b 70 l) refl

        pub above-digits : 70 < b → 16 ≡ digit_of b
        unfolding digit_of pick
        above-digits l = simp (le-ltb b 48 h, lt-leb b 57 g, le-ltb b 65 k, lt-leb b 70 l) refl

module _ (bs : List ℕ) (i : ℕ) where
  pub all-turn : i < length bs → digit_of (get_or bs i 0) < 16 → all is_digit (drop (i + 1) bs) ≡ all is_digit (drop i bs)
  all-turn h d =
      sym (ap (λ (l : List ℕ). all is_digit l) (from-here i bs h)
      ∙ ap (λ (t : Bool). t && all is_digit (drop (i + 1) bs)) (lt-ltb (digit_of (get_or bs i 0)) 16 d))

  pub all-no : i < length bs → 16 ≤ digit_of (get_or bs i 0) → all is_digit (drop i bs) ≡ false
  all-no h d =
      ap (λ (l : List ℕ). all is_digit l) (from-here i bs h)
      ∙ ap (λ (t : Bool). t && all is_digit (drop (i + 1) bs)) (le-ltb (digit_of (get_or bs i 0)) 16 d)

  pub all_end : length bs ≤ i → all is_digit (drop i bs) ≡ true
  all_end h = ap (λ (l : List ℕ). all is_digit l) (drop_of_length-le bs h)

pub digit_at : (bs : List ℕ) (i : ℕ) → all is_digit bs ≡ true → i < length bs → digit_of (get_or bs i 0) < 16
digit_at [] i h l = absurd (omega arith)
digit_at (b ∷ bs) zero h l = ltb-true (digit_of b) 16 (and_left (is_digit b) (all is_digit bs) h)
digit_at (b ∷ bs) (suc i) h l = digit_at bs i (and_right (is_digit b) (all is_digit bs) h) (omega arith)

module _ (bs : List ℕ) (h : is_record bs ≡ true) where
  pub record-length : length bs ≡ 64
  unfolding is_record
  record-length = eqb-true (length bs) 64 (and_left (eqb (length bs) 64) (all is_digit bs) h)

  pub record_digit : (i : ℕ) → i < 64 → digit_of (get_or bs i 0) < 16
  unfolding is_record
  record_digit i l =
      let e = record-length in
      digit_at bs i (and_right (eqb (length bs) 64) (all is_digit bs) h) (omega arith)

-- ---- put

module _ (bs : List ℕ) (i at : ℕ) (s : List ℕ) where
  pub put-turn : (x : ℕ) → 2 * i + 1 < length bs → x ≡ digit_of (get_or bs (2 * i) 0) * 16 + digit_of (get_or bs (2 * i + 1) 0)
      → sets (set s (at + i) x) (at + (i + 1)) (bytes_in (drop (2 * (i + 1)) bs)) ≡ sets s (at + i) (bytes_in (drop (2 * i) bs))
  unfolding bytes_in
  put-turn x h e =
      let a = get_or bs (2 * i) 0 in
      let b = get_or bs (2 * i + 1) 0 in
      let f : 2 * (i + 1) ≡ 2 * i + 1 + 1 = omega arith in
      let g : at + (i + 1) ≡ suc (at + i) = omega arith in
      let k : 2 * i < length bs = omega arith in
      (λ j. sets (set s (at + i) (e j)) (g j) (bytes_in (drop (f j) bs)))
      ∙ sym (ap (λ (l : List ℕ). sets s (at + i) (bytes_in l)) (from-here (2 * i) bs k)
      ∙ ap (λ (l : List ℕ). sets s (at + i) (bytes_in (a ∷ l))) (from-here (2 * i + 1) bs h))

  pub put-start : sets s (at + 0) (bytes_in bs) ≡ sets s at (bytes_in bs)
  put-start = ap (λ (k : ℕ). sets s k (bytes_in bs)) (add-zero at)

  pub put-end : length bs ≤ 2 * i → sets s (at + i) (bytes_in (drop (2 * i) bs)) ≡ s
  unfolding bytes_in
  put-end h = ap (λ (l : List ℕ). sets s (at + i) (bytes_in l)) (drop_of_length-le bs h)

-- ---- what is written reads back

low_glyph : (d : ℕ) → d < 10 → digit_of (glyph_of d) ≡ d
unfolding glyph_of
low_glyph d h =
    let e = pick_true _ _ _ (lt-ltb d 10 h) in
    ap digit_of e ∙ sym (a-decimal (48 + d) (omega arith) (omega arith)) ∙ omega arith

high_glyph : (d : ℕ) → 10 ≤ d → d < 16 → digit_of (glyph_of d) ≡ d
unfolding glyph_of
high_glyph d h k =
    let e = pick-false _ _ _ (le-ltb d 10 h) in
    ap digit_of e ∙ sym (a-letter (55 + d) (omega arith) (omega arith) (omega arith) (omega arith)) ∙ omega arith

digit_glyph : (d : ℕ) → d < 16 → digit_of (glyph_of d) ≡ d
digit_glyph d h = ⊎_elim (λ (k : 10 ≤ d). high_glyph d k h) (λ (k : d < 10). low_glyph d k) (le_or-lt 10 d)

pub hex-back : (bs : List ℕ) → All (λ b. b < 256) bs → bytes_in (hex_of bs) ≡ bs
unfolding hex_of bytes_in All
hex-back [] h = refl
hex-back (b ∷ bs) (h, k) =
    let p = digit_glyph (b / 16) (omega arith) in
    let q = digit_glyph (b % 16) (omega arith) in
    let e : digit_of (glyph_of (b / 16)) * 16 + digit_of (glyph_of (b % 16)) ≡ b = omega (arith, p, q) in
    (λ i. e i ∷ hex-back bs k i)
