-- Words laid one after another make up the sheet; and every word is found again at its place. Assumes nothing.
use Prim.Native.Nat.{ℕ, zero, suc, ◌+◌, ◌-◌, ◌*◌, ◌/◌, ◌%◌, ◌<◌, ◌≤◌}
use mathlib.Core.Path.{◌≡◌, refl, sym, ap, ap₂, ◌∙◌}
use mathlib.Core.Bool.{Bool, true, false}
use mathlib.Core.List.{List, [], ◌∷◌, ◌++◌, append_assoc, append-nil}
use native.Mathlib.Nat.{add-zero}
use native.Mathlib.Omega.{arith}
use borrow.Author.Tests.{eq-eqb, ne_eqb}
use lib.Dec.{eqb, eqb-suc-zero}
use native.Mathlib.Numerals.{add-one}
use Rattle.laws.specs.Counting.{table}
use lib.ListN.{length, get_or, take, drop, set, replicate, length-append, length-drop, length-replicate, replicate-append-replicate}
use lib.Seq.{take-suc, take-suc-set, length-take-le, sets-eq, length-sets, take_at, drop-append-add, drop-drop}
use Rattle.laws.specs.Pick.{pick}
use Rattle.records.specs.Words.{bytes2, bytes4, bytes8, bytes_of}
use Rattle.records.specs.Records.{next, chained}
use Rattle.records.specs.Inner.{put_word, link_of, place_of, emitted, laid}
use Rattle.records.proofs.Records as C
use Rattle.records.proofs.Records.{Whole}
use Rattle.records.proofs.Links.{emit-first, emit-later}

-- ---- lengths

length-put : (i x : ℕ) (s : List ℕ) → length (put_word i x s) ≡ length s
unfolding put_word
length-put i x s = length-sets s i (bytes8 x)

length_picked : (b : Bool) (u v s : List ℕ) → length u ≡ length s → length v ≡ length s → length (pick b u v) ≡ length s
unfolding pick
length_picked true u v s p q = p
length_picked false u v s p q = q

pub length-emitted : (info n k x : ℕ) (s : List ℕ) → length (emitted info n k x s) ≡ length s
unfolding emitted
length-emitted info n k x s =
    length-put (place_of k) x _
    ∙ length_picked (eqb (k % 3) 0) (put_word (k / 3 * 32) (link_of info n (k / 3)) s) s s (length-put (k / 3 * 32) (link_of info n (k / 3)) s) refl

pub laid_append : (info n k : ℕ) (xs ys s : List ℕ) → laid info n k (xs ++ ys) s ≡ laid info n (k + length xs) ys (laid info n k xs s)
unfolding laid
laid_append info n k [] ys s = ap (λ (j : ℕ). laid info n j ys s) (sym (add-zero k))
laid_append info n k (x ∷ xs) ys s =
    let e : suc k + length xs ≡ k + suc (length xs) = omega arith in
    laid_append info n (suc k) xs ys (emitted info n k x s)
    ∙ ap (λ (j : ℕ). laid info n j ys (laid info n (suc k) xs (emitted info n k x s))) e

length-eight : (x : ℕ) → length (bytes8 x) ≡ 8
unfolding bytes8 bytes4 bytes2
length-eight x = refl

-- ---- a word at the end of what is written

put-end : (q r : List ℕ) (i x : ℕ) → length q ≡ i → 8 ≤ length r → put_word i x (q ++ r) ≡ (q ++ bytes8 x) ++ drop 8 r
unfolding put_word
put-end q r i x e h =
    let l : i + length (bytes8 x) ≤ length (q ++ r) = omega (arith, length-append q r, length-eight x) in
    let a : i + length (bytes8 x) ≡ length q + 8 = omega (arith, length-eight x) in
    sets-eq (bytes8 x) (q ++ r) i l
    ∙ ap₂ (λ (u v : List ℕ). (u ++ bytes8 x) ++ v) (take_at q r i e)
    (ap (λ (k : ℕ). drop k (q ++ r)) a ∙ drop-append-add q r 8)

-- ---- a record

module _ (info n k a b c : ℕ) (q r : List ℕ) (at : length q ≡ k * 32) (room : 32 ≤ length r) where
  three : ℕ
  three = k * 3

  first : emitted info n (k * 3) a (q ++ r) ≡ ((q ++ bytes8 (link_of info n k)) ++ bytes8 a) ++ drop 8 (drop 8 r)
  unfolding place_of
  first =
      let z : k * 3 % 3 ≡ 0 = omega arith in
      let d : k * 3 / 3 ≡ k = omega arith in
      let p : k * 3 / 3 * 32 + 8 + k * 3 % 3 * 8 ≡ k * 32 + 8 = omega arith in
      let m : k * 3 / 3 * 32 ≡ k * 32 = omega arith in
      let l : length (q ++ bytes8 (link_of info n k)) ≡ k * 32 + 8 = omega (arith, length-append q (bytes8 (link_of info n k)), length-eight (link_of info n k)) in
      sym (emit-first info n (k * 3) a (q ++ r) z)
      ∙ ap₂ (λ (u v : ℕ). put_word u a (put_word v (link_of info n (k * 3 / 3)) (q ++ r))) p m
      ∙ ap (λ (u : ℕ). put_word (k * 32 + 8) a (put_word (k * 32) (link_of info n u) (q ++ r))) d
      ∙ ap (put_word (k * 32 + 8) a) (put-end q r (k * 32) (link_of info n k) at (omega arith))
      ∙ put-end (q ++ bytes8 (link_of info n k)) (drop 8 r) (k * 32 + 8) a l (omega (arith, length-drop 8 r))

later : (info n k j x : ℕ) (q r : List ℕ) → 0 < j → j < 3 → length q ≡ k * 32 + 8 + j * 8 → 8 ≤ length r
    → emitted info n (k * 3 + j) x (q ++ r) ≡ (q ++ bytes8 x) ++ drop 8 r
unfolding place_of
later info n k j x q r low high at room =
    let m : (k * 3 + j) % 3 ≡ j = omega arith in
    let p : (k * 3 + j) / 3 * 32 + 8 + (k * 3 + j) % 3 * 8 ≡ k * 32 + 8 + j * 8 = omega arith in
    sym (emit-later info n (k * 3 + j) x (q ++ r) (λ e. omega arith))
    ∙ ap (λ (u : ℕ). put_word u x (q ++ r)) p
    ∙ put-end q r (k * 32 + 8 + j * 8) x at room

regroup : (q a b c d : List ℕ) → (((q ++ a) ++ b) ++ c) ++ d ≡ q ++ (a ++ (b ++ (c ++ d)))
regroup q a b c d = simp append_assoc

regroup' : (q a b c d e : List ℕ) → (q ++ (a ++ (b ++ (c ++ d)))) ++ e ≡ q ++ (a ++ (b ++ (c ++ (d ++ e))))
regroup' q a b c d e = simp append_assoc

-- the four words of record k
abbrev record_bytes : ℕ → ℕ → ℕ → ℕ → List ℕ
record_bytes l a b c = bytes8 l ++ (bytes8 a ++ (bytes8 b ++ bytes8 c))

module _ (info n k a b c : ℕ) (q r : List ℕ) (at : length q ≡ k * 32) (room : 32 ≤ length r) where
  record-laid : emitted info n (suc (suc (k * 3))) c (emitted info n (suc (k * 3)) b (emitted info n (k * 3) a (q ++ r)))
      ≡ (q ++ record_bytes (link_of info n k) a b c) ++ drop 32 r
  record-laid =
      let l = link_of info n k in
      let q1 = (q ++ bytes8 l) ++ bytes8 a in
      let q2 = q1 ++ bytes8 b in
      let r1 = drop 8 (drop 8 r) in
      let e1 : suc (k * 3) ≡ k * 3 + 1 = omega arith in
      let e2 : suc (suc (k * 3)) ≡ k * 3 + 2 = omega arith in
      let h1 : length q1 ≡ k * 32 + 8 + 1 * 8 =
      omega (arith, length-append (q ++ bytes8 l) (bytes8 a), length-append q (bytes8 l), length-eight l, length-eight a) in
      let h2 : length q2 ≡ k * 32 + 8 + 2 * 8 = omega (arith, length-append q1 (bytes8 b), length-eight b) in
      let d1 : length r1 ≡ length r - 16 = omega (arith, length-drop 8 (drop 8 r), length-drop 8 r) in
      let d2 : length (drop 8 r1) ≡ length r - 24 = omega (arith, length-drop 8 r1) in
      let d : drop 8 (drop 8 r1) ≡ drop 32 r = drop-drop 8 8 r1 ∙ drop-drop 16 8 (drop 8 r) ∙ drop-drop 24 8 r in
      ap₂ (λ (u : ℕ) (v : List ℕ). emitted info n u c v) e2
      (ap₂ (λ (u : ℕ) (v : List ℕ). emitted info n u b v) e1 (first info n k a b c q r at room)
      ∙ later info n k 1 b q1 r1 (omega arith) (omega arith) h1 (omega arith))
      ∙ later info n k 2 c q2 (drop 8 r1) (omega arith) (omega arith) h2 (omega arith)
      ∙ ap₂ ◌++◌ (regroup q (bytes8 l) (bytes8 a) (bytes8 b) (bytes8 c)) d

-- ---- the whole

length_record : (l a b c : ℕ) → length (record_bytes l a b c) ≡ 32
unfolding bytes8 bytes4 bytes2
length_record l a b c = refl

pub link-is : (k n : ℕ) {ws : List ℕ} → Whole ws → suc k * 3 + length ws ≡ n * 3 → pick (eqb (k + 1) n) 0 (k + 1) ≡ next k ws
unfolding next pick
link-is k n C.none h = let e : k + 1 ≡ n = omega arith in ap (λ (b : Bool). pick b 0 (k + 1)) (eq-eqb (k + 1) n e)
link-is k n (C.more p) h =
    ap (λ (b : Bool). pick b 0 (k + 1)) (ne_eqb (k + 1) n (λ e. omega arith)) ∙ omega arith

laid_from : (info n k i : ℕ) {ws : List ℕ} → Whole ws → k * 3 + length ws ≡ n * 3 → i * 4294967296 ≡ pick (eqb k 0) (info * 4294967296) 0
    → (q r : List ℕ) → length q ≡ k * 32 → (n - k) * 32 ≤ length r
    → laid info n (k * 3) ws (q ++ r) ≡ (q ++ bytes_of (chained i k ws)) ++ drop ((n - k) * 32) r
unfolding laid chained bytes_of link_of pick
laid_from info n k i C.none h g q r at room =
    let e : (n - k) * 32 ≡ 0 = omega arith in
    sym (ap₂ (λ (u : List ℕ) (v : ℕ). u ++ drop v r) (append-nil q) e)
laid_from info n k i (C.more {a = a} {b = b} {c = c} {ws = ws} p) h g q r at room =
    let l = link_of info n k in
    let R = record_bytes l a b c in
    let e : suc (suc (suc (k * 3))) ≡ suc k * 3 = omega arith in
    let f : suc k * 3 + length ws ≡ n * 3 = omega arith in
    let m : l ≡ i * 4294967296 + next k ws = ap₂ ◌+◌ (sym g) (link-is k n p f) in
    let x : 32 ≤ length r = omega arith in
    let y : length (q ++ R) ≡ suc k * 32 = omega (arith, length-append q R, length_record l a b c) in
    let z : (n - suc k) * 32 ≤ length (drop 32 r) = omega (arith, length-drop 32 r) in
    let w : 32 + (n - suc k) * 32 ≡ (n - k) * 32 = omega arith in
    let t = bytes_of (chained 0 (suc k) ws) in
    ap₂ (λ (u : ℕ) (v : List ℕ). laid info n u ws v) e (record-laid info n k a b c q r at x)
    ∙ laid_from info n (suc k) 0 p f (ap (λ (d : Bool). pick d (info * 4294967296) 0) (sym (eqb-suc-zero k))) (q ++ R) (drop 32 r) y z
    ∙ ap₂ ◌++◌ (regroup' q (bytes8 l) (bytes8 a) (bytes8 b) (bytes8 c) t ∙ ap (λ (u : ℕ). q ++ (bytes8 u ++ (bytes8 a ++ (bytes8 b ++ (bytes8 c ++ t))))) m)
    (drop-drop ((n - suc k) * 32) 32 r ∙ ap (λ (u : ℕ). drop u r) w)

-- n records of words, laid over the front of s
pub laid-is : (info n : ℕ) {ws : List ℕ} → Whole ws → length ws ≡ n * 3 → (s : List ℕ) → n * 32 ≤ length s
    → laid info n 0 ws s ≡ bytes_of (chained info 0 ws) ++ drop (n * 32) s
unfolding pick
laid-is info n {ws} p h s room =
    let e : (n - 0) * 32 ≡ n * 32 = omega arith in
    laid_from info n 0 info p (omega arith) refl [] s refl (omega arith)
    ∙ ap (λ (u : ℕ). bytes_of (chained info 0 ws) ++ drop u s) e

-- ---- room for a word

pub place-room : (k n m : ℕ) → k < n * 3 → n * 32 ≤ m → place_of k + 8 ≤ m
unfolding place_of
place-room k n m h l = omega arith

-- ---- one word more, at the end of a run

laid_more : (info n k : ℕ) (xs : List ℕ) (x : ℕ) (s : List ℕ) → laid info n k (xs ++ (x ∷ [])) s ≡ emitted info n (k + length xs) x (laid info n k xs s)
unfolding laid
laid_more info n k xs x s = laid_append info n k xs (x ∷ []) s

-- ---- the turns of loops

pub turn-run : (info n k : ℕ) (xs s₀ s s' : List ℕ) (i : ℕ) → i < length xs → s ≡ laid info n k (take i xs) s₀
    → s' ≡ emitted info n (k + i) (get_or xs i 0) s → s' ≡ laid info n k (take (i + 1) xs) s₀
turn-run info n k xs s₀ s s' i h e f =
    let t : take (i + 1) xs ≡ take i xs ++ (get_or xs i 0 ∷ []) = ap (λ (j : ℕ). take j xs) (add-one i) ∙ take-suc xs i 0 h in
    let l : length (take i xs) ≡ i = length-take-le i xs (omega arith) in
    f
    ∙ ap₂ (λ (j : ℕ) (u : List ℕ). emitted info n (k + j) (get_or xs i 0) u) (sym l) e
    ∙ sym (laid_more info n k (take i xs) (get_or xs i 0) s₀)
    ∙ ap (λ (u : List ℕ). laid info n k u s₀) (sym t)

pub turn-zeros : (info n k : ℕ) (s₀ s s' : List ℕ) (i : ℕ) → s ≡ laid info n k (replicate i 0) s₀
    → s' ≡ emitted info n (k + i) 0 s → s' ≡ laid info n k (replicate (i + 1) 0) s₀
turn-zeros info n k s₀ s s' i e f =
    let o : ℕ = 0 in
    let t : replicate (i + 1) o ≡ replicate i o ++ (o ∷ []) = sym (replicate-append-replicate i 1 o) in
    let l : length (replicate i o) ≡ i = length-replicate i o in
    f
    ∙ ap₂ (λ (j : ℕ) (u : List ℕ). emitted info n (k + j) 0 u) (sym l) e
    ∙ sym (laid_more info n k (replicate i o) 0 s₀)
    ∙ ap (λ (u : List ℕ). laid info n k u s₀) (sym t)

pub table_more : (f : ℕ → ℕ) (lo i : ℕ) → table f lo (suc i) ≡ table f lo i ++ (f (lo + i) ∷ [])
table_more f lo zero = ap (λ (j : ℕ). f j ∷ []) (sym (add-zero lo))
table_more f lo (suc i) =
    let e : suc lo + i ≡ lo + suc i = omega arith in
    ap (λ (l : List ℕ). f lo ∷ l) (table_more f (suc lo) i ∙ ap (λ (j : ℕ). table f (suc lo) i ++ (f j ∷ [])) e)

pub turn-read : (f : ℕ → ℕ) (k i : ℕ) (out : List ℕ) (x : ℕ) → i < length out → take i out ≡ table f k i → x ≡ f (k + i)
    → take (i + 1) (set out i x) ≡ table f k (i + 1)
turn-read f k i out x h e q =
    ap (λ (j : ℕ). take j (set out i x)) (add-one i)
    ∙ take-suc-set out i x h
    ∙ ap₂ (λ (u : List ℕ) (y : ℕ). u ++ (y ∷ [])) e q
    ∙ sym (table_more f k i)
    ∙ ap (table f k) (sym (add-one i))

pub cell_room : (k m n i : ℕ) → i < m → (k + m + 2) / 3 * 32 ≤ n → place_of (k + i) + 8 ≤ n
unfolding place_of
cell_room k m n i h l = omega arith
