-- Rows: canonical rows are equal where their counts are, and the row of a list of bins is canonical and counts them. Assumes nothing.
use Prim.Native.Nat.{ℕ, zero, suc, ◌+◌, ◌-◌, ◌≤◌, ◌<◌, pred}
use mathlib.Core.Path.{◌≡◌, refl, ap, sym, subst, ◌∙◌}
use mathlib.Core.Logic.{inl, inr}
use mathlib.Core.List.{List, [], ◌∷◌, ◌++◌}
use native.Mathlib.Decide.{dec_lt}
use native.Mathlib.Nat.{eq-zero-or-pos, add-sub_cancel_left, add-zero}
use native.Mathlib.Omega.{arith}
use lib.ListN.{length, get_or, replicate, get_or-eq_default}
use lib.Seq.{ext_get_or}
use borrow.Author.Tests.{le-leb, lt-leb}
use Rattle.laws.specs.Pick.{pick}
use Rattle.laws.specs.Counting.{bit, count, lowest, highest, table}
use Rattle.laws.proofs.Same.{count_append, Same, same-of-count}
use Rattle.laws.proofs.Counting.{ends_of, length-table, get_or-table, count-replicate, count-replicate-same}
use Rattle.points.specs.Points.{Row, row_of, expand}
use lib.Dec.{leb, eqb}

-- the count of the bin i
unfoldable pub at : Row → ℕ → ℕ
at r i = pick (leb r.start i) (get_or r.counts (i - r.start) 0) 0

-- no zero at either end, and one empty row only
pub record Canonical (r : Row) : Type 0 where
  pub empty : length r.counts ≡ 0 → r.start ≡ 0
  pub first : 0 < length r.counts → 0 < get_or r.counts 0 0
  pub last : 0 < length r.counts → 0 < get_or r.counts (pred (length r.counts)) 0

module _ (r : Row) where
  pub at_in : (k : ℕ) → at r (r.start + k) ≡ get_or r.counts k 0
  unfolding at pick
  at_in k = rw (le-leb r.start (r.start + k) (omega arith), add-sub_cancel_left)

  pub at-below : (i : ℕ) → i < r.start → at r i ≡ 0
  unfolding at pick
  at-below i h = rw (lt-leb r.start i h)

  pub at_above : (k : ℕ) → length r.counts ≤ k → at r (r.start + k) ≡ 0
  at_above k h = at_in k ∙ get_or-eq_default r.counts 0 h

  -- where something is counted, the row has a place
  pub at-pos : (i : ℕ) → 0 < at r i → (r.start ≤ i) × (i < r.start + length r.counts)
  at-pos i h =
      elim (dec_lt i r.start) [
        | yes b ↦ absurd (omega (arith, at-below i b))
        | no nb ↦
            elim (dec_lt i (r.start + length r.counts)) [
              | yes b ↦ (omega arith, b)
              | no na ↦
                  let e : r.start + (i - r.start) ≡ i = omega arith in
                  let z : at r i ≡ 0 = rw e at (at_above (i - r.start) (omega arith)) in
                  absurd (omega arith)
            ]
      ]

-- a canonical row is no wider than a row that counts something wherever it does
pub within : (r s : Row) → Canonical r → ((i : ℕ) → 0 < at r i → 0 < at s i) → 0 < length r.counts
    → (s.start ≤ r.start) × (r.start + length r.counts ≤ s.start + length s.counts)
within r s c h p =
    let a = at-pos s (r.start + 0) (h (r.start + 0) (omega (arith, at_in r 0, c.first p))) in
    let k = pred (length r.counts) in
    let b = at-pos s (r.start + k) (h (r.start + k) (omega (arith, at_in r k, c.last p))) in
    omega (arith, a, b)

pub row_path : (r s : Row) → r.start ≡ s.start → r.counts ≡ s.counts → r ≡ s
row_path r s p q = λ i. record { start = p i; counts = q i }

-- Canonical rows with the same count at every index are the same data.
pub canonical-unique : (r s : Row) → Canonical r → Canonical s → ((i : ℕ) → at r i ≡ at s i) → r ≡ s
canonical-unique r s c d h =
    row_path r s ends.0
    (ext_get_or 0 r.counts s.counts ends.1 (λ i b. sym (at_in r i) ∙ ap (λ n. at r (n + i)) ends.0 ∙ h (s.start + i) ∙ at_in s i))
  where
    up : (i : ℕ) → 0 < at r i → 0 < at s i
    up i p = omega (arith, h i)

    down : (i : ℕ) → 0 < at s i → 0 < at r i
    down i p = omega (arith, h i)

    ends : (r.start ≡ s.start) × (length r.counts ≡ length s.counts)
    ends =
        elim (eq-zero-or-pos (length r.counts)) [
          | inl z ↦
              elim (eq-zero-or-pos (length s.counts)) [
                | inl y ↦ omega (arith, c.empty z, d.empty y)
                | inr y ↦ absurd (omega (arith, within s r d down y))
              ]
          | inr p ↦
              elim (eq-zero-or-pos (length s.counts)) [
                | inl y ↦ absurd (omega (arith, within r s c up p))
                | inr y ↦ omega (arith, within r s c up p, within s r d down y)
              ]
        ]

-- a narrower row is no longer
pub within-length : (r s : Row) → Canonical r → ((i : ℕ) → at r i ≤ at s i) → length r.counts ≤ length s.counts
within-length r s c h =
    elim (eq-zero-or-pos (length r.counts)) [
      | inl z ↦ omega arith
      | inr p ↦ omega (arith, within r s c (λ i q. omega (arith, h i)) p)
    ]

-- the counts f from lo on, n of them, where f counts nothing outside and something at both ends
abbrev tabled : (ℕ → ℕ) → ℕ → ℕ → Row
tabled f lo n = record { start = lo; counts = table f lo n }

at-tabled : (f : ℕ → ℕ) (lo n : ℕ) → ((i : ℕ) → 0 < f i → (lo ≤ i) × (i < lo + n)) → (i : ℕ) → at (tabled f lo n) i ≡ f i
at-tabled f lo n out i =
    elim (eq-zero-or-pos (f i)) [
      | inl z ↦
          elim (eq-zero-or-pos (at (tabled f lo n) i)) [
            | inl y ↦ y ∙ sym z
            | inr p ↦ inside (omega (arith, at-pos (tabled f lo n) i p, length-table f lo n))
          ]
      | inr p ↦ inside (out i p)
    ]
  where
    inside : (lo ≤ i) × (i < lo + n) → at (tabled f lo n) i ≡ f i
    inside b =
        let e : lo + (i - lo) ≡ i = omega arith in
        rw e at (at_in (tabled f lo n) (i - lo) ∙ get_or-table f lo n (i - lo) (omega arith))

tabled-canonical : (f : ℕ → ℕ) (lo n : ℕ) → 0 < f lo → 0 < f (lo + n) → Canonical (tabled f lo (suc n))
tabled-canonical f lo n a b =
    record {
      empty = λ z. absurd (omega arith);
      first = λ _. a;
      last = λ _.
          subst (λ (m : ℕ). 0 < get_or (table f lo (suc n)) m 0) (sym (length-table f (suc lo) n))
          (omega (arith, get_or-table f lo (suc n) n (omega arith), b));
    }

pub at-row_of : (xs : List ℕ) (i : ℕ) → at (row_of xs) i ≡ count i xs
unfolding row_of
at-row_of [] i = elim (eq-zero-or-pos (at (row_of []) i)) [ inl z ↦ z | inr p ↦ absurd (omega (arith, at-pos (row_of []) i p)) ]
at-row_of (x ∷ xs) i =
    at-tabled (λ j. count j (x ∷ xs)) (lowest x xs) (suc (highest x xs - lowest x xs)) (λ j p. omega (arith, (ends_of x xs).all j p)) i

pub row_of-canonical : (xs : List ℕ) → Canonical (row_of xs)
unfolding row_of
row_of-canonical [] = record { empty = λ _. refl; first = λ h. absurd (omega arith); last = λ h. absurd (omega arith) }
row_of-canonical (x ∷ xs) =
    let e : lowest x xs + (highest x xs - lowest x xs) ≡ highest x xs = omega (arith, (ends_of x xs).all (lowest x xs) (ends_of x xs).low) in
    tabled-canonical (λ j. count j (x ∷ xs)) (lowest x xs) (highest x xs - lowest x xs) (ends_of x xs).low
    (subst (λ m. 0 < count m (x ∷ xs)) (sym e) (ends_of x xs).high)

-- a row is decided by the counts of its bins
pub row_of-cong : (xs ys : List ℕ) → Same xs ys → row_of xs ≡ row_of ys
row_of-cong xs ys h =
    canonical-unique (row_of xs) (row_of ys) (row_of-canonical xs) (row_of-canonical ys)
    (λ i. at-row_of xs i ∙ h (λ x. bit (eqb x i)) ∙ sym (at-row_of ys i))

pub row_of-length : (xs ys : List ℕ) → length (row_of xs).counts ≤ length (row_of (xs ++ ys)).counts
row_of-length xs ys =
    within-length (row_of xs) (row_of (xs ++ ys)) (row_of-canonical xs)
    (λ i. omega (arith, at-row_of xs i, at-row_of (xs ++ ys) i, count_append i xs ys))

-- the bins that a row stands for are counted as the row counts them
count-expand-below : (i s : ℕ) (cs : List ℕ) → i < s → count i (expand s cs) ≡ 0
count-expand-below i s [] h = refl
count-expand-below i s (c ∷ cs) h =
    omega (arith, count_append i (replicate c s) (expand (suc s) cs), count-replicate i c s (omega arith), count-expand-below i (suc s) cs (omega arith))

count-expand-at : (k s : ℕ) (cs : List ℕ) → count (s + k) (expand s cs) ≡ get_or cs k 0
count-expand-at k s [] = refl
count-expand-at zero s (c ∷ cs) =
    rw add-zero
    (omega (arith, count_append s (replicate c s) (expand (suc s) cs), count-replicate-same s c, count-expand-below s (suc s) cs (omega arith)))
count-expand-at (suc k) s (c ∷ cs) =
    let e : s + suc k ≡ suc s + k = omega arith in
    rw e
    (omega (
      arith,
      count_append (suc s + k) (replicate c s) (expand (suc s) cs),
      count-replicate (suc s + k) c s (omega arith),
      count-expand-at k (suc s) cs,
    ))

pub count-expand : (r : Row) (i : ℕ) → count i (expand r.start r.counts) ≡ at r i
count-expand r i =
    elim (dec_lt i r.start) [
      | yes b ↦ count-expand-below i r.start r.counts b ∙ sym (at-below r i b)
      | no nb ↦
          let e : r.start + (i - r.start) ≡ i = omega arith in
          rw e at (count-expand-at (i - r.start) r.start r.counts ∙ sym (at_in r (i - r.start)))
    ]

-- the row of the bins of a canonical row is that row, and the bins of a list's row are those of the list
pub row_of-expand : (r : Row) → Canonical r → row_of (expand r.start r.counts) ≡ r
row_of-expand r c =
    canonical-unique (row_of (expand r.start r.counts)) r (row_of-canonical (expand r.start r.counts)) c
    (λ i. at-row_of (expand r.start r.counts) i ∙ count-expand r i)

pub expand-row_of : (xs : List ℕ) → Same (expand (row_of xs).start (row_of xs).counts) xs
expand-row_of xs = same-of-count (expand (row_of xs).start (row_of xs).counts) xs (λ i. count-expand (row_of xs) i ∙ at-row_of xs i)
