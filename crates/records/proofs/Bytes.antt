-- Words come back out of their bytes, and bytes out of their words. Assumes nothing.
use Prim.Native.Nat.{ℕ, zero, suc, ◌+◌, ◌*◌, ◌/◌, ◌%◌, ◌<◌, ◌≤◌}
use mathlib.Core.Path.{◌≡◌, refl, sym, ap, ap₂, ◌∙◌, subst}
use mathlib.Core.Logic.{inl, inr}
use mathlib.Core.List.{List, [], ◌∷◌, ◌++◌}
use native.Mathlib.Nat.{add_assoc, add-zero}
use native.Mathlib.Omega.{arith}
use lib.ListN.{length, get_or, drop, set, get_or-eq_default}
use lib.Seq.{get_or-drop, sets}
use Rattle.laws.proofs.Differences.{le_or-lt}
use Rattle.laws.specs.Counting.{table}
use Rattle.records.specs.Words.{bytes2, bytes4, bytes8, bytes_of, two_at, four_at, word_at, words_of}
use Rattle.records.specs.Inner.{AllBytes, put_word}

-- ---- further on in the list

two-drop : (n : ℕ) (s : List ℕ) (i : ℕ) → two_at (drop n s) i ≡ two_at s (n + i)
unfolding two_at
two-drop n s i =
    ap₂ (λ (a b : ℕ). a + 256 * b) (get_or-drop n s i 0) (get_or-drop n s (i + 1) 0 ∙ ap (λ (j : ℕ). get_or s j 0) (sym (add_assoc n i 1)))

four-drop : (n : ℕ) (s : List ℕ) (i : ℕ) → four_at (drop n s) i ≡ four_at s (n + i)
unfolding four_at
four-drop n s i =
    ap₂ (λ (a b : ℕ). a + 65536 * b) (two-drop n s i) (two-drop n s (i + 2) ∙ ap (two_at s) (sym (add_assoc n i 2)))

pub word-drop : (n : ℕ) (s : List ℕ) (i : ℕ) → word_at (drop n s) i ≡ word_at s (n + i)
unfolding word_at
word-drop n s i =
    ap₂ (λ (a b : ℕ). a + 4294967296 * b) (four-drop n s i) (four-drop n s (i + 4) ∙ ap (four_at s) (sym (add_assoc n i 4)))

-- ---- a number out of its bytes

two-own : (x : ℕ) (t : List ℕ) → two_at (bytes2 x ++ t) 0 ≡ x
unfolding two_at bytes2
two-own x t = omega arith

join2 : (x : ℕ) → x % 65536 + 65536 * (x / 65536) ≡ x
join2 x = omega arith

join4 : (x : ℕ) → x % 4294967296 + 4294967296 * (x / 4294967296) ≡ x
join4 x = omega arith

four-own : (x : ℕ) (t : List ℕ) → four_at (bytes4 x ++ t) 0 ≡ x
unfolding four_at bytes4 bytes2
four-own x t =
    ap₂ (λ (a b : ℕ). a + 65536 * b) (two-own (x % 65536) (bytes2 (x / 65536) ++ t)) (sym (two-drop 2 (bytes4 x ++ t) 0) ∙ two-own (x / 65536) t)
    ∙ join2 x

pub word-own : (x : ℕ) (t : List ℕ) → word_at (bytes8 x ++ t) 0 ≡ x
unfolding word_at bytes8 bytes4 bytes2
word-own x t =
    ap₂ (λ (a b : ℕ). a + 4294967296 * b) (four-own (x % 4294967296) (bytes4 (x / 4294967296) ++ t)) (sym (four-drop 4 (bytes8 x ++ t) 0) ∙ four-own (x / 4294967296) t)
    ∙ join4 x

-- ---- words out of their bytes

pub table_shift : (f g : ℕ → ℕ) → ((i : ℕ) → f (suc i) ≡ g i) → (n lo : ℕ) → table f (suc lo) n ≡ table g lo n
table_shift f g h zero lo = refl
table_shift f g h (suc n) lo = ap₂ ◌∷◌ (h lo) (table_shift f g h n (suc lo))

pub length-bytes : (ws : List ℕ) → length (bytes_of ws) ≡ 8 * length ws
unfolding bytes_of bytes8 bytes4 bytes2
length-bytes [] = refl
length-bytes (w ∷ ws) = omega (arith, length-bytes ws)

eight-more : (i : ℕ) → 8 * suc i ≡ 8 + 8 * i
eight-more i = omega arith

own-table : (ws : List ℕ) → table (λ i. word_at (bytes_of ws) (8 * i)) 0 (length ws) ≡ ws
unfolding bytes_of bytes8 bytes4 bytes2
own-table [] = refl
own-table (w ∷ ws) =
    ap₂ ◌∷◌ (word-own w (bytes_of ws))
    (table_shift (λ i. word_at (bytes_of (w ∷ ws)) (8 * i)) (λ i. word_at (bytes_of ws) (8 * i))
    (λ i. ap (word_at (bytes_of (w ∷ ws))) (eight-more i) ∙ sym (word-drop 8 (bytes_of (w ∷ ws)) (8 * i)))
    (length ws) 0
    ∙ own-table ws)

pub words-own : (ws : List ℕ) → words_of (bytes_of ws) ≡ ws
unfolding words_of
words-own ws =
    let n : length (bytes_of ws) / 8 ≡ length ws = omega (arith, length-bytes ws) in
    ap (table (λ i. word_at (bytes_of ws) (8 * i)) 0) n ∙ own-table ws

-- ---- written in two goes
sets_append : (xs ys l : List ℕ) (i : ℕ) → sets (sets l i xs) (i + length xs) ys ≡ sets l i (xs ++ ys)
sets_append [] ys l i = ap (λ (k : ℕ). sets l k ys) (add-zero i)
sets_append (x ∷ xs) ys l i =
    let e : i + suc (length xs) ≡ suc i + length xs = omega arith in
    ap (λ (k : ℕ). sets (sets (set l i x) (suc i) xs) k ys) e ∙ sets_append xs ys (set l i x) (suc i)

pub put_four : (l : List ℕ) (i x : ℕ) → sets (sets l i (bytes2 (x % 65536))) (i + 2) (bytes2 (x / 65536)) ≡ sets l i (bytes4 x)
unfolding bytes4 bytes2
put_four l i x = sets_append (bytes2 (x % 65536)) (bytes2 (x / 65536)) l i

pub put-eight : (l : List ℕ) (i x : ℕ) → sets (sets l i (bytes4 (x % 4294967296))) (i + 4) (bytes4 (x / 4294967296)) ≡ put_word i x l
unfolding put_word bytes8 bytes4 bytes2
put-eight l i x = sets_append (bytes4 (x % 4294967296)) (bytes4 (x / 4294967296)) l i

-- ---- bytes known one by one

pub known_more : (s : List ℕ) (i : ℕ) → ((j : ℕ) → j < i → get_or s j 0 < 256) → get_or s i 0 < 256 → (j : ℕ) → j < i + 1 → get_or s j 0 < 256
known_more s i h g j l =
    elim (le_or-lt i j) [
      | inl p ↦ let e : i ≡ j = omega arith in subst (λ (k : ℕ). get_or s k 0 < 256) e g
      | inr p ↦ h j p
    ]

pub known-all : (s : List ℕ) (i : ℕ) → length s ≤ i → ((j : ℕ) → j < i → get_or s j 0 < 256) → AllBytes s
unfolding AllBytes
known-all s i g h j =
    elim (le_or-lt i j) [
      | inl p ↦ subst (λ (k : ℕ). k < 256) (sym (get_or-eq_default s 0 (omega arith))) (omega arith)
      | inr p ↦ h j p
    ]
