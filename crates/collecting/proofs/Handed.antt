-- The row of a slot's set as it is handed out: its words, then zeros. Assumes nothing.
use Prim.Native.Nat.{ℕ, zero, suc, ◌+◌, ◌-◌, ◌≤◌}
use mathlib.Core.Path.{◌≡◌, refl, sym, ap, ◌∙◌}
use mathlib.Core.List.{List, [], ◌∷◌, ◌++◌, map, append_assoc}
use native.Mathlib.Omega.{arith}
use borrow.Author.Tests.{lt-ltb, le-ltb}
use lib.Dec.{ltb}
use lib.ListN.{length, get_or, replicate, length-map}
use Rattle.laws.specs.Pick.{pick}
use Rattle.laws.proofs.Bools.{pick_true, pick-false}
use Rattle.sets.specs.Rows.{pair, size, span, set_of, row_of}
use Rattle.sets.proofs.Exact.{own-words}
use Rattle.sets.proofs.Spans.{span-length}
use Rattle.directory.specs.View.{set_at}

-- k words of a row from place i on, 0 from place n on
abbrev words_from : List ℕ → ℕ → ℕ → ℕ → List ℕ
words_from row n i zero = []
words_from row n i (suc k) = pick (ltb i n) (get_or row i 0) 0 ∷ words_from row n (suc i) k

zeros-from : (row : List ℕ) (n i k : ℕ) → n ≤ i → words_from row n i k ≡ replicate k 0
zeros-from row n i zero h = refl
zeros-from row n i (suc k) h =
    λ j. pick-false (ltb i n) (get_or row i 0) 0 (le-ltb i n h) j ∷ zeros-from row n (suc i) k (omega arith) j

words-from : (row : List ℕ) (m i k : ℕ) → m ≤ k → words_from row (i + m) i k ≡ span row i m ++ replicate (k - m) 0
words-from row zero i k h =
    let e : k - 0 ≡ k = omega arith in
    zeros-from row (i + zero) i k (omega arith) ∙ ap (λ (n : ℕ). replicate n 0) (sym e)
words-from row (suc m) i zero h = absurd (omega arith)
words-from row (suc m) i (suc k) h =
    let e : i + suc m ≡ suc i + m = omega arith in
    let f : suc k - suc m ≡ k - m = omega arith in
    let t = ap (λ (n : ℕ). words_from row n (suc i) k) e ∙ words-from row m (suc i) k (omega arith) ∙ ap (λ (n : ℕ). span row (suc i) m ++ replicate n 0) (sym f) in
    λ j. pick_true (ltb i (i + suc m)) (get_or row i 0) 0 (lt-ltb i (i + suc m) (omega arith)) j ∷ t j

pub row_words : (row : List ℕ) → size row ≤ 8 → words_from row (size row) 0 8 ++ (size row ∷ []) ≡ row_of (set_of row)
unfolding row_of set_of
row_words row h =
    let n = size row in
    let W = span row 0 n in
    let z : 0 + n ≡ n = omega arith in
    let k : length (map pair W) ≡ n = length-map W pair ∙ span-length row 0 n in
    ap (λ (m : ℕ). words_from row m 0 8 ++ (n ∷ [])) (sym z)
    ∙ ap (λ (l : List ℕ). l ++ (n ∷ [])) (words-from row n 0 8 h)
    ∙ append_assoc W (replicate (8 - n) 0) (n ∷ [])
    ∙ ap (λ (m : ℕ). W ++ (replicate (8 - m) 0 ++ (m ∷ []))) (sym k)
    ∙ ap (λ (l : List ℕ). l ++ (replicate (8 - length (map pair W)) 0 ++ (length (map pair W) ∷ []))) (sym (own-words W))

-- the empty set's
pub row-empty : (sets : List (List ℕ)) (x : ℕ) → x ≡ 0 → 0 ∷ 0 ∷ 0 ∷ 0 ∷ 0 ∷ 0 ∷ 0 ∷ 0 ∷ 0 ∷ [] ≡ row_of (set_at sets x)
unfolding row_of
row-empty sets x e = ap (λ (y : ℕ). row_of (set_at sets y)) (sym e)
