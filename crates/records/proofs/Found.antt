-- Every word is found at its place; and bytes whose links are right are those of their words. Assumes nothing.
use Prim.Native.Nat.{ℕ, zero, suc, ◌+◌, ◌*◌, ◌/◌, ◌%◌, ◌<◌, ◌≤◌}
use mathlib.Core.Path.{◌≡◌, refl, sym, ap, ap₂, ◌∙◌, subst}
use mathlib.Core.Bool.{Bool}
use mathlib.Core.List.{List, [], ◌∷◌, ◌++◌}
use native.Mathlib.Nat.{add-zero}
use native.Mathlib.Omega.{arith}
use borrow.Author.Tests.{eq-eqb, ne_eqb}
use lib.Dec.{eqb, eqb-suc-zero}
use lib.ListN.{length, get_or, take, drop}
use lib.Seq.{get_or-drop, drop-cons}
use Rattle.laws.specs.Pick.{pick}
use Rattle.laws.specs.Counting.{table}
use Rattle.records.specs.Words.{bytes2, bytes4, bytes8, bytes_of, two_at, four_at, word_at, words_of}
use Rattle.records.specs.Records.{next, chained, unchained}
use Rattle.records.specs.Inner.{AllBytes, link_of, place_of, cell_at, run}
use Rattle.records.specs.Records.{cells}
use Rattle.records.proofs.Bytes.{word-drop, table_shift}

-- ---- places

pub get_or-table : (f : ℕ → ℕ) (lo n i : ℕ) → i < n → get_or (table f lo n) i 0 ≡ f (lo + i)
get_or-table f lo zero i h = absurd (omega arith)
get_or-table f lo (suc n) zero h = ap f (sym (add-zero lo))
get_or-table f lo (suc n) (suc i) h =
    let e : suc lo + i ≡ lo + suc i = omega arith in
    get_or-table f (suc lo) n i (omega arith) ∙ ap f e

pub length-table : (f : ℕ → ℕ) (lo n : ℕ) → length (table f lo n) ≡ n
length-table f lo zero = refl
length-table f lo (suc n) = ap suc (length-table f (suc lo) n)

pub word-at : (s : List ℕ) (i : ℕ) → i < length s / 8 → get_or (words_of s) i 0 ≡ word_at s (8 * i)
unfolding words_of
word-at s i h =
    let e : 0 + i ≡ i = omega arith in
    get_or-table (λ j. word_at s (8 * j)) 0 (length s / 8) i h ∙ ap (λ (j : ℕ). word_at s (8 * j)) e

abbrev spot : ℕ → ℕ
spot k = k / 3 * 4 + 1 + k % 3

pub get_or-four : (l a b c : ℕ) (ws : List ℕ) (i : ℕ) → get_or (l ∷ a ∷ b ∷ c ∷ ws) (4 + i) 0 ≡ get_or ws i 0
get_or-four l a b c ws i = sym (get_or-drop 4 (l ∷ a ∷ b ∷ c ∷ ws) i 0)

unchained-at : (ws : List ℕ) (k : ℕ) → k < length ws / 4 * 3 → get_or (unchained ws) k 0 ≡ get_or ws (spot k) 0
unfolding unchained
unchained-at [] k h = absurd (omega arith)
unchained-at (l ∷ []) k h = absurd (omega arith)
unchained-at (l ∷ a ∷ []) k h = absurd (omega arith)
unchained-at (l ∷ a ∷ b ∷ []) k h = absurd (omega arith)
unchained-at (l ∷ a ∷ b ∷ c ∷ ws) zero h = refl
unchained-at (l ∷ a ∷ b ∷ c ∷ ws) (suc zero) h = refl
unchained-at (l ∷ a ∷ b ∷ c ∷ ws) (suc (suc zero)) h = refl
unchained-at (l ∷ a ∷ b ∷ c ∷ ws) (suc (suc (suc k))) h =
    let e : 4 + spot k ≡ spot (suc (suc (suc k))) = omega arith in
    unchained-at ws k (omega arith)
    ∙ sym (get_or-four l a b c ws (spot k))
    ∙ ap (λ (j : ℕ). get_or (l ∷ a ∷ b ∷ c ∷ ws) j 0) e

length-unchained : (ws : List ℕ) → length (unchained ws) ≡ length ws / 4 * 3
unfolding unchained
length-unchained [] = refl
length-unchained (l ∷ []) = refl
length-unchained (l ∷ a ∷ []) = refl
length-unchained (l ∷ a ∷ b ∷ []) = refl
length-unchained (l ∷ a ∷ b ∷ c ∷ ws) = omega (arith, length-unchained ws)

length-words : (s : List ℕ) → length (words_of s) ≡ length s / 8
unfolding words_of
length-words s = length-table (λ j. word_at s (8 * j)) 0 (length s / 8)

pub cells-length : (s : List ℕ) → length (cells s) ≡ length s / 32 * 3
cells-length s = omega (arith, length-unchained (words_of s), length-words s)

pub cells_at : (s : List ℕ) (k : ℕ) → k < length s / 32 * 3 → get_or (cells s) k 0 ≡ cell_at s k
unfolding cell_at place_of
cells_at s k h =
    let a : k < length (words_of s) / 4 * 3 = omega (arith, length-words s) in
    let b : spot k < length s / 8 = omega arith in
    let e : 8 * spot k ≡ k / 3 * 32 + 8 + k % 3 * 8 = omega arith in
    unchained-at (words_of s) k a ∙ word-at s (spot k) b ∙ ap (word_at s) e

table_is : (f : ℕ → ℕ) (l : List ℕ) → ((i : ℕ) → i < length l → get_or l i 0 ≡ f i) → (m k : ℕ) → k + m ≤ length l → table f k m ≡ take m (drop k l)
table_is f l h zero k g = refl
table_is f l h (suc m) k g =
    let p : k < length l = omega arith in
    ap₂ ◌∷◌ (sym (h k p)) (table_is f l h m (suc k) (omega arith)) ∙ ap (take (suc m)) (sym (drop-cons l k 0 p))

-- m words from k on, where there are so many
pub run_is : (s : List ℕ) (k m : ℕ) → k + m ≤ length (cells s) → run s k m ≡ take m (drop k (cells s))
run_is s k m h = table_is (cell_at s) (cells s) (λ i p. cells_at s i (omega (arith, p, cells-length s))) m k h

-- ---- bytes out of words

two_back : (a b : ℕ) → a < 256 → ◌≡◌ {A = List ℕ} ((a + 256 * b) % 256 ∷ (a + 256 * b) / 256 ∷ []) (a ∷ b ∷ [])
two_back a b h =
    let p : (a + 256 * b) % 256 ≡ a = omega arith in
    let q : (a + 256 * b) / 256 ≡ b = omega arith in
    rw (p, q)

four-back : (p q : ℕ) → p < 65536 → bytes4 (p + 65536 * q) ≡ bytes2 p ++ bytes2 q
unfolding bytes4
four-back p q h =
    let a : (p + 65536 * q) % 65536 ≡ p = omega arith in
    let b : (p + 65536 * q) / 65536 ≡ q = omega arith in
    rw (a, b)

eight-back : (p q : ℕ) → p < 4294967296 → bytes8 (p + 4294967296 * q) ≡ bytes4 p ++ bytes4 q
unfolding bytes8
eight-back p q h =
    let a : (p + 4294967296 * q) % 4294967296 ≡ p = omega arith in
    let b : (p + 4294967296 * q) / 4294967296 ≡ q = omega arith in
    rw (a, b)

word_back : (a b c d e f g h : ℕ) (t : List ℕ) → AllBytes (a ∷ b ∷ c ∷ d ∷ e ∷ f ∷ g ∷ h ∷ t)
    → bytes8 (word_at (a ∷ b ∷ c ∷ d ∷ e ∷ f ∷ g ∷ h ∷ t) 0) ≡ a ∷ b ∷ c ∷ d ∷ e ∷ f ∷ g ∷ h ∷ []
unfolding word_at four_at two_at bytes2 AllBytes
word_back a b c d e f g h t k =
    let ka : a < 256 = k 0 in
    let kb : b < 256 = k 1 in
    let kc : c < 256 = k 2 in
    let kd : d < 256 = k 3 in
    let ke : e < 256 = k 4 in
    let kf : f < 256 = k 5 in
    let kg : g < 256 = k 6 in
    let lo = (a + 256 * b) + 65536 * (c + 256 * d) in
    let hi = (e + 256 * f) + 65536 * (g + 256 * h) in
    eight-back lo hi (omega arith)
    ∙ ap₂ ◌++◌
    (four-back (a + 256 * b) (c + 256 * d) (omega arith) ∙ ap₂ ◌++◌ (two_back a b ka) (two_back c d kc))
    (four-back (e + 256 * f) (g + 256 * h) (omega arith) ∙ ap₂ ◌++◌ (two_back e f ke) (two_back g h kg))

eight-more : (i : ℕ) → 8 * suc i ≡ 8 + 8 * i
eight-more i = omega arith

module _ (m : ℕ) (a b c d e f g h : ℕ) (t : List ℕ) (k : AllBytes (a ∷ b ∷ c ∷ d ∷ e ∷ f ∷ g ∷ h ∷ t)) where
  abbrev eight : List ℕ
  eight = a ∷ b ∷ c ∷ d ∷ e ∷ f ∷ g ∷ h ∷ t

  one-back : bytes_of (table (λ i. word_at t (8 * i)) 0 m) ≡ t → bytes_of (table (λ i. word_at eight (8 * i)) 0 (suc m)) ≡ eight
  unfolding bytes_of
  one-back ih =
      ap₂ ◌++◌ (word_back a b c d e f g h t k)
      (ap bytes_of (table_shift (λ i. word_at eight (8 * i)) (λ i. word_at t (8 * i)) (λ i. ap (word_at eight) (eight-more i) ∙ sym (word-drop 8 eight (8 * i))) m 0)
      ∙ ih)

bytes-from : (m : ℕ) (s : List ℕ) → length s ≡ 8 * m → AllBytes s → bytes_of (table (λ i. word_at s (8 * i)) 0 m) ≡ s
unfolding bytes_of AllBytes
bytes-from zero [] h k = refl
bytes-from zero (a ∷ s) h k = absurd (omega arith)
bytes-from (suc m) [] h k = absurd (omega arith)
bytes-from (suc m) (a ∷ []) h k = absurd (omega arith)
bytes-from (suc m) (a ∷ b ∷ []) h k = absurd (omega arith)
bytes-from (suc m) (a ∷ b ∷ c ∷ []) h k = absurd (omega arith)
bytes-from (suc m) (a ∷ b ∷ c ∷ d ∷ []) h k = absurd (omega arith)
bytes-from (suc m) (a ∷ b ∷ c ∷ d ∷ e ∷ []) h k = absurd (omega arith)
bytes-from (suc m) (a ∷ b ∷ c ∷ d ∷ e ∷ f ∷ []) h k = absurd (omega arith)
bytes-from (suc m) (a ∷ b ∷ c ∷ d ∷ e ∷ f ∷ g ∷ []) h k = absurd (omega arith)
bytes-from (suc m) (a ∷ b ∷ c ∷ d ∷ e ∷ f ∷ g ∷ x ∷ t) h k =
    one-back m a b c d e f g x t k
    (bytes-from m t (omega arith) (λ i. subst (λ (y : ℕ). y < 256) (sym (get_or-drop 8 (a ∷ b ∷ c ∷ d ∷ e ∷ f ∷ g ∷ x ∷ t) i 0)) (k (8 + i))))

bytes-own : (s : List ℕ) (m : ℕ) → length s ≡ 8 * m → AllBytes s → bytes_of (words_of s) ≡ s
unfolding words_of
bytes-own s m h k =
    let e : length s / 8 ≡ m = omega arith in
    ap (λ (j : ℕ). bytes_of (table (λ i. word_at s (8 * i)) 0 j)) e ∙ bytes-from m s h k

-- ---- words out of records with the right links

next-is : (k n m : ℕ) (ws : List ℕ) → n ≡ k + suc m → length ws ≡ m * 4 → pick (eqb (k + 1) n) 0 (k + 1) ≡ next k (unchained ws)
unfolding next unchained pick
next-is k n m [] h l = let e : k + 1 ≡ n = omega arith in ap (λ (b : Bool). pick b 0 (k + 1)) (eq-eqb (k + 1) n e)
next-is k n m (a ∷ []) h l = absurd (omega arith)
next-is k n m (a ∷ b ∷ []) h l = absurd (omega arith)
next-is k n m (a ∷ b ∷ c ∷ []) h l = absurd (omega arith)
next-is k n m (a ∷ b ∷ c ∷ d ∷ ws) h l =
    ap (λ (x : Bool). pick x 0 (k + 1)) (ne_eqb (k + 1) n (λ e. omega arith)) ∙ omega arith

chain-from : (info n m k i : ℕ) (ws : List ℕ) → n ≡ k + m → length ws ≡ m * 4 → i * 4294967296 ≡ pick (eqb k 0) (info * 4294967296) 0
    → ((r : ℕ) → r < m → get_or ws (r * 4) 0 ≡ link_of info n (k + r)) → chained i k (unchained ws) ≡ ws
unfolding chained unchained link_of pick
chain-from info n zero k i [] h l g f = refl
chain-from info n zero k i (a ∷ ws) h l g f = absurd (omega arith)
chain-from info n (suc m) k i [] h l g f = absurd (omega arith)
chain-from info n (suc m) k i (a ∷ []) h l g f = absurd (omega arith)
chain-from info n (suc m) k i (a ∷ b ∷ []) h l g f = absurd (omega arith)
chain-from info n (suc m) k i (a ∷ b ∷ c ∷ []) h l g f = absurd (omega arith)
chain-from info n (suc m) k i (a ∷ b ∷ c ∷ d ∷ ws) h l g f =
    let z : k + 0 ≡ k = omega arith in
    let w : length ws ≡ m * 4 = omega arith in
    let q : a ≡ i * 4294967296 + next k (unchained ws) =
    f 0 (omega arith) ∙ ap (link_of info n) z ∙ ap₂ ◌+◌ (sym g) (next-is k n m ws h w) in
    ap₂ (λ (x : ℕ) (y : List ℕ). x ∷ b ∷ c ∷ d ∷ y) (sym q)
    (chain-from info n m (suc k) 0 ws (omega arith) w (ap (λ (x : Bool). pick x (info * 4294967296) 0) (sym (eqb-suc-zero k)))
    (λ r p.
    let e4 : 4 + r * 4 ≡ suc r * 4 = omega arith in
    let e1 : k + suc r ≡ suc k + r = omega arith in
    sym (get_or-four a b c d ws (r * 4)) ∙ ap (λ (j : ℕ). get_or (a ∷ b ∷ c ∷ d ∷ ws) j 0) e4 ∙ f (suc r) (omega arith) ∙ ap (link_of info n) e1))

-- n records of bytes with the right links are the sheet of their words
pub cells-own : (info n : ℕ) (s : List ℕ) → length s ≡ n * 32 → AllBytes s → ((r : ℕ) → r < n → word_at s (r * 32) ≡ link_of info n r)
    → bytes_of (chained info 0 (cells s)) ≡ s
unfolding pick
cells-own info n s h k f =
    let l : length (words_of s) ≡ n * 4 = omega (arith, length-words s) in
    ap bytes_of (chain-from info n n 0 info (words_of s) (omega arith) l refl
    (λ r p.
    let e : 8 * (r * 4) ≡ r * 32 = omega arith in
    let z : 0 + r ≡ r = omega arith in
    word-at s (r * 4) (omega arith) ∙ ap (word_at s) e ∙ f r p ∙ ap (link_of info n) (sym z)))
    ∙ bytes-own s (n * 4) (omega arith) k

-- ---- a word is below 2 ^ 64

two-small : (s : List ℕ) → AllBytes s → (i : ℕ) → two_at s i < 65536
unfolding AllBytes two_at
two-small s k i = omega (arith, k i, k (i + 1))

four-small : (s : List ℕ) → AllBytes s → (i : ℕ) → four_at s i < 4294967296
unfolding four_at
four-small s k i = omega (arith, two-small s k i, two-small s k (i + 2))

join-small : (a b : ℕ) → a < 4294967296 → b < 4294967296 → a + 4294967296 * b < 18446744073709551616
join-small a b h g = omega arith

word_small : (s : List ℕ) → AllBytes s → (i : ℕ) → word_at s i < 18446744073709551616
unfolding word_at
word_small s k i = join-small (four_at s i) (four_at s (i + 4)) (four-small s k i) (four-small s k (i + 4))

pub cells-small : (s : List ℕ) → AllBytes s → (i : ℕ) → i < length (cells s) → get_or (cells s) i 0 < 18446744073709551616
unfolding cell_at
cells-small s k i h =
    subst (λ (x : ℕ). x < 18446744073709551616) (sym (cells_at s i (omega (arith, cells-length s)))) (word_small s k (place_of i))
