-- Sets compare as their words do. Assumes nothing.
use Prim.Native.Nat.{ℕ, ◌+◌, ◌-◌, ◌/◌, ◌%◌, ◌≤◌, ◌<◌, compare, Ordering}
use mathlib.Core.Path.{◌≡◌, refl, ap, ◌∙◌}
use mathlib.Core.List.{List, [], ◌∷◌, map}
use native.Mathlib.Omega.{arith}
use lib.ListN.{get_or}
use Rattle.tally.specs.Sets.{three, cmp}
use Rattle.laws.proofs.Compare.{compare-lt, compare-eq, lt-compare, compare_self, compare-flip, flip}
use Rattle.sets.specs.Rows.{pair, size, span, words, set_of}
use Rattle.sets.proofs.Spans.{span-all, span_more, span_none}

-- word by word, then the shorter first
abbrev pub cmp_words : List ℕ → List ℕ → Ordering
cmp_words [] [] = Ordering.eq
cmp_words [] (y ∷ l) = Ordering.lt
cmp_words (x ∷ k) [] = Ordering.gt
cmp_words (x ∷ k) (y ∷ l) = three (compare x y) Ordering.lt (cmp_words k l) Ordering.gt

pub gt-compare : (m n : ℕ) → n < m → compare m n ≡ Ordering.gt
gt-compare m n h = compare-flip n m ∙ ap flip (lt-compare n m h)

pub eq-compare : (m n : ℕ) → m ≡ n → compare m n ≡ Ordering.eq
eq-compare m n e = rw e (compare_self n)

pub compare_gt : (m n : ℕ) → compare m n ≡ Ordering.gt → n < m
compare_gt m n e = compare-lt n m (compare-flip m n ∙ ap flip e)

-- one word's comparison is that of key, then value
by-pair : (x y : ℕ) (c : Ordering) → three (compare (x / 4294967296) (y / 4294967296)) Ordering.lt (three (compare (x % 4294967296) (y % 4294967296)) Ordering.lt c Ordering.gt) Ordering.gt ≡ three (compare x y) Ordering.lt c Ordering.gt
by-pair x y c = go (compare (x / 4294967296) (y / 4294967296)) refl (compare (x % 4294967296) (y % 4294967296)) refl
  where
    go : (o : Ordering) → compare (x / 4294967296) (y / 4294967296) ≡ o → (p : Ordering) → compare (x % 4294967296) (y % 4294967296) ≡ p
        → three o Ordering.lt (three p Ordering.lt c Ordering.gt) Ordering.gt ≡ three (compare x y) Ordering.lt c Ordering.gt
    go Ordering.lt d p e = let h = compare-lt _ _ d in rw (lt-compare x y (omega arith))
    go Ordering.gt d p e = let h = compare_gt _ _ d in rw (gt-compare x y (omega arith))
    go Ordering.eq d Ordering.lt e = let h = compare-eq _ _ d in let k = compare-lt _ _ e in rw (lt-compare x y (omega arith))
    go Ordering.eq d Ordering.gt e = let h = compare-eq _ _ d in let k = compare_gt _ _ e in rw (gt-compare x y (omega arith))
    go Ordering.eq d Ordering.eq e = let h = compare-eq _ _ d in let k = compare-eq _ _ e in rw (eq-compare x y (omega arith))

pub cmp-words : (a b : List ℕ) → cmp (map pair a) (map pair b) ≡ cmp_words a b
cmp-words [] [] = refl
cmp-words [] (y ∷ l) = refl
cmp-words (x ∷ k) [] = refl
cmp-words (x ∷ k) (y ∷ l) = rw (cmp-words k l) (by-pair x y (cmp_words k l))

pub cmp-rows : (a b : List ℕ) → cmp (set_of a) (set_of b) ≡ cmp_words (words a) (words b)
unfolding set_of
cmp-rows a b = cmp-words (words a) (words b)

-- a turn of the comparison, at place i
module _ (a b : List ℕ) (n m i : ℕ) where
  abbrev pub left : Ordering
  left = cmp_words (span a i (n - i)) (span b i (m - i))

  pub longer : i < n → m ≤ i → left ≡ Ordering.gt
  longer h k = rw (span_more a i n h, span_none b i m k)

  pub shorter : n ≤ i → i < m → left ≡ Ordering.lt
  shorter h k = rw (span_none a i n h, span_more b i m k)

  pub ended : n ≤ i → m ≤ i → left ≡ Ordering.eq
  ended h k = rw (span_none a i n h, span_none b i m k)

  module _ (h : i < n) (k : i < m) where
    pub low : get_or a i 0 < get_or b i 0 → left ≡ Ordering.lt
    low e = rw (span_more a i n h, span_more b i m k, lt-compare _ _ e)

    pub high : get_or b i 0 < get_or a i 0 → left ≡ Ordering.gt
    high e = rw (span_more a i n h, span_more b i m k, gt-compare _ _ e)

    pub alike : get_or b i 0 ≤ get_or a i 0 → get_or a i 0 ≤ get_or b i 0 → left ≡ cmp_words (span a (i + 1) (n - (i + 1))) (span b (i + 1) (m - (i + 1)))
    alike e f = rw (span_more a i n h, span_more b i m k, eq-compare _ _ (let g : get_or a i 0 ≡ get_or b i 0 = omega arith in g))

pub at-start : (a b : List ℕ) → cmp (set_of a) (set_of b) ≡ cmp_words (span a 0 (size a - 0)) (span b 0 (size b - 0))
at-start a b = rw (span-all a (size a), span-all b (size b)) (cmp-rows a b)
