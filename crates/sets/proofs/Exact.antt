-- The row that is written for a set, to its last word: one row for each set. Assumes nothing.
use Prim.Native.Nat.{ℕ, suc, ◌+◌, ◌-◌, ◌*◌, ◌/◌, ◌%◌, ◌≤◌, ◌<◌}
use mathlib.Core.Path.{◌≡◌, refl, ap, sym, ◌∙◌}
use mathlib.Core.List.{List, [], ◌∷◌, ◌++◌, map, append_assoc}
use native.Mathlib.Omega.{arith}
use lib.ListN.{length, get_or, set, take, drop, replicate, length-set, length-map, length-append, length-drop, length-replicate, get_or-replicate}
use lib.Seq.{get_or-set_other, get_or-set_same, get_or-append-add, get_or-drop, length-take-le, take-append_seam}
use Rattle.tally.specs.Sets.{Set, Lendable}
use Rattle.sets.specs.Inserted.{inserted}
use Rattle.sets.specs.Rows.{pair, size, span, set_of, word_of, row_of}
use Rattle.sets.specs.Inner.{Clean}
use Rattle.sets.proofs.Spans.{span-take, length_inserted, span-whole, span-length, span-zeros, span-split}

-- a word is that of its pair
own-word : (x : ℕ) → x / 4294967296 * 4294967296 + x % 4294967296 ≡ x
own-word x = omega arith

pub own-words : (l : List ℕ) → map word_of (map pair l) ≡ l
own-words [] = refl
own-words (x ∷ l) = rw (own-word x, own-words l)

length_pairs : (l : List ℕ) → length (map pair l) ≡ length l
length_pairs l = length-map l pair

-- a clean row is the row of its set
pub row-own : (row : List ℕ) → Clean row → size row ≤ 8 → row_of (set_of row) ≡ row
unfolding row_of set_of
row-own row c h =
    let n = size row in
    let W = span row 0 n in
    let k : length (map pair W) ≡ n = length_pairs W ∙ span-length row 0 n in
    let a : 0 + n ≡ n = omega arith in
    let b : n + (8 - n) ≡ 8 = omega arith in
    let z : span row n (8 - n) ≡ replicate (8 - n) 0 = span-zeros row n (8 - n) (λ j p q. c.zeros j p (omega arith)) in
    let x : span row 0 9 ≡ span row 0 8 ++ (n ∷ []) = span-split row 0 8 1 in
    let y : span row 0 8 ≡ W ++ replicate (8 - n) 0 = ap (λ (m : ℕ). span row 0 m) (sym b) ∙ span-split row 0 n (8 - n) ∙ ap (λ (m : ℕ). W ++ span row m (8 - n)) a ∙ ap (λ r. W ++ r) z in
    let w : span row 0 9 ≡ row = ap (λ (m : ℕ). span row 0 m) (sym c.long) ∙ span-whole row in
    ap (λ r. r ++ (replicate (8 - length (map pair W)) 0 ++ (length (map pair W) ∷ []))) (own-words W)
    ∙ ap (λ (m : ℕ). W ++ (replicate (8 - m) 0 ++ (m ∷ []))) k
    ∙ sym (append_assoc W (replicate (8 - n) 0) (n ∷ []))
    ∙ ap (λ r. r ++ (n ∷ [])) (sym y)
    ∙ sym x
    ∙ w

own_pair : (k v : ℕ) → k < 4294967296 → v < 4294967296 → ◌≡◌ {A = ℕ × ℕ} ((k * 4294967296 + v) / 4294967296, (k * 4294967296 + v) % 4294967296) (k, v)
own_pair k v h g =
    let a : (k * 4294967296 + v) / 4294967296 ≡ k = omega arith in
    let b : (k * 4294967296 + v) % 4294967296 ≡ v = omega arith in
    rw (a, b)

own-pairs : (s : Set) → Lendable s → map pair (map word_of s) ≡ s
own-pairs [] h = refl
own-pairs (a ∷ s) h = rw (own_pair a.0 a.1 h.0.0 h.0.1, own-pairs s h.1)

-- and the row of a set holds that set
pub size-row : (s : Set) → length s ≤ 8 → size (row_of s) ≡ length s
unfolding row_of
size-row s h =
    let n = length s in
    let a : length (map word_of s) ≡ n = length-map s word_of in
    let o : ℕ = 0 in
    let b : length (replicate (8 - n) o) ≡ 8 - n = length-replicate (8 - n) o in
    let e : length (map word_of s) + (length (replicate (8 - n) o) + 0) ≡ 8 = omega arith in
    ap (λ (j : ℕ). get_or (map word_of s ++ (replicate (8 - n) o ++ (n ∷ []))) j 0) (sym e)
    ∙ get_or-append-add (map word_of s) (replicate (8 - n) o ++ (n ∷ [])) (length (replicate (8 - n) o) + 0) 0
    ∙ get_or-append-add (replicate (8 - n) o) (n ∷ []) 0 0

front : (s : Set) → span (row_of s) 0 (length (map word_of s)) ≡ map word_of s
unfolding row_of
front s =
    let r = replicate (8 - length s) 0 ++ (length s ∷ []) in
    span-take (map word_of s ++ r) (length (map word_of s)) (omega (arith, length-append (map word_of s) r))
    ∙ take-append_seam (map word_of s) r

words-of : (s : Set) → length s ≤ 8 → set_of (row_of s) ≡ map pair (map word_of s)
unfolding set_of
words-of s h = ap (λ (k : ℕ). map pair (span (row_of s) 0 k)) (size-row s h ∙ sym (length-map s word_of)) ∙ ap (map pair) (front s)

pub set_own : (s : Set) → length s ≤ 8 → Lendable s → set_of (row_of s) ≡ s
set_own s h g = words-of s h ∙ own-pairs s g

pub set-again : (row : List ℕ) → size row ≤ 8 → set_of (row_of (set_of row)) ≡ set_of row
unfolding set_of
set-again row h =
    let W = span row 0 (size row) in
    let k : length (map pair W) ≤ 8 = omega (arith, length-map W pair, span-length row 0 (size row)) in
    words-of (map pair W) k ∙ ap (map pair) (own-words W)

-- clean rows stay clean
get_d_past : (l : List ℕ) (n p x j : ℕ) → p ≤ n → n < length l → n < j → get_or (inserted l n p x) j 0 ≡ get_or l j 0
unfolding inserted
get_d_past l n p x j h k m =
    let a : length (take p l) ≡ p = length-take-le p l (omega arith) in
    let t : length (take n l) ≡ n = length-take-le n l (omega arith) in
    let b : length (drop p (take n l)) ≡ n - p = length-drop p (take n l) ∙ ap (λ (i : ℕ). i - p) t in
    let e : length (take p l) + suc (length (drop p (take n l)) + (j - (n + 1))) ≡ j = omega arith in
    let f : n + 1 + (j - (n + 1)) ≡ j = omega arith in
    ap (λ (i : ℕ). get_or (take p l ++ (x ∷ (drop p (take n l) ++ drop (n + 1) l))) i 0) (sym e)
    ∙ get_or-append-add (take p l) (x ∷ (drop p (take n l) ++ drop (n + 1) l)) (suc (length (drop p (take n l)) + (j - (n + 1)))) 0
    ∙ get_or-append-add (drop p (take n l)) (drop (n + 1) l) (j - (n + 1)) 0
    ∙ get_or-drop (n + 1) l (j - (n + 1)) 0
    ∙ ap (λ (i : ℕ). get_or l i 0) f

pub clean-same : (row : List ℕ) (p w : ℕ) → p < size row → size row ≤ 8 → Clean row → Clean (set row p w)
clean-same row p w h k c =
    let s : get_or (set row p w) 8 0 ≡ size row = get_or-set_other row p 8 w 0 (λ q. omega arith) in
    record {
      long = length-set row p w ∙ c.long;
      zeros = λ j a b. get_or-set_other row p j w 0 (λ q. omega arith) ∙ c.zeros j (omega arith) b;
    }

pub clean-more : (row : List ℕ) (n p w : ℕ) → n ≡ size row → p ≤ n → n ≤ 7 → Clean row → Clean (set (inserted row n p w) 8 (n + 1))
clean-more row n p w e h k c =
    let l : length (inserted row n p w) ≡ length row = length_inserted row n p w h (omega (arith, c.long)) in
    let s : get_or (set (inserted row n p w) 8 (n + 1)) 8 0 ≡ n + 1 = get_or-set_same (inserted row n p w) 8 (n + 1) 0 (omega (arith, c.long)) in
    record {
      long = length-set (inserted row n p w) 8 (n + 1) ∙ l ∙ c.long;
      zeros = λ j a b.
          get_or-set_other (inserted row n p w) 8 j (n + 1) 0 (λ q. omega arith)
          ∙ get_d_past row n p w j h (omega (arith, c.long)) (omega arith)
          ∙ c.zeros j (omega arith) b;
    }

pub clean-start : Clean (0 ∷ 0 ∷ 0 ∷ 0 ∷ 0 ∷ 0 ∷ 0 ∷ 0 ∷ 0 ∷ [])
clean-start = record { long = refl; zeros = λ j a b. get_or-replicate 9 j 0 0 (omega arith) }

-- what sorting makes of clean rows
pub row_is : (row : List ℕ) (s : Set) → Clean row → size row ≤ 8 → set_of row ≡ s → row ≡ row_of s
row_is row s c h e = sym (row-own row c h) ∙ ap row_of e
