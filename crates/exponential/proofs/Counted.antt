-- What each bin of a row counts, and that lowering and adding one are what the definition of a row says. Assumes nothing.
use Rattle.std.proofs.Common.{◌≡◌, ℕ, zero, suc, ◌+◌, ◌-◌, ◌/◌, ◌^◌, ◌<◌, ◌≤◌, min, max, Bool, true, false, eqb, List, [], ◌∷◌, ◌++◌, map, length, replicate, sym, refl, ap, ◌∙◌, ⊎_elim, add-zero, arith, length-append, ext_get_or}
use native.Mathlib.Nat.{zero-div, min-eq_left, min-eq_right}
use lib.Dec.{eqb-suc-zero}
use lib.Pow.{shr_mono}
use Rattle.laws.specs.Counting.{bit, count, lowest, highest, table}
use Rattle.laws.proofs.Same.{count_append, sum-map}
use Rattle.laws.proofs.Counting.{Ends, ends-map, ends_append, ends_of, length-table}
use Rattle.points.specs.Points.{Row, row_of, expand}
use Rattle.points.proofs.Rows.{at_in, at-row_of, row_path, count-expand, expand-row_of, at}
use Rattle.points.proofs.Ends.{ends-row, bucket, sum-expand, sum-replicate}
use Rattle.laws.specs.Pick.{pick}
use Rattle.rows.specs.Rows.{add_at, downscaled, recorded, recorded_from}
use Rattle.rows.proofs.Laws.{length-add_at_in, length-add_at-out}
use Rattle.rows.proofs.Algebra.{count_at, counts_of, count_at-downscaled, length-downscaled-is, downscaled-recorded, pick-add, le_or-lt, downscaled-some}
use Rattle.exponential.specs.Steps.{lowered, with1, low_bin, high_bin}

-- a row is decided by its ends and the counts between
pub row-by-ends : (r : Row) (lo hi : ℕ) (xs : List ℕ) → Ends lo hi xs → r.start ≡ lo → length r.counts ≡ suc (hi - lo)
    → ((j : ℕ) → at r j ≡ count j xs) → r ≡ row_of xs
row-by-ends r lo hi xs e s l h =
    let q = row_of xs in
    let t = ends-row lo hi xs e in
    row_path r q (s ∙ sym t.0)
    (ext_get_or 0 r.counts q.counts (l ∙ sym t.1)
    (λ i b. sym (at_in r i) ∙ ap (λ n. at r (n + i)) (s ∙ sym t.0) ∙ h (q.start + i) ∙ sym (at-row_of xs (q.start + i)) ∙ at_in q i))

counts-bucket : (k s : ℕ) (cs : List ℕ) (j : ℕ) → counts_of k s cs j ≡ bucket k s cs j
unfolding counts_of
counts-bucket k s [] j = refl
counts-bucket k s (c ∷ cs) j = omega (arith, counts-bucket k (suc s) cs j)

count-at-expand : (j s : ℕ) (cs : List ℕ) → count j (expand s cs) ≡ count_at s cs j
unfolding count_at
count-at-expand j s [] = refl
count-at-expand j s (c ∷ cs) =
    omega (
      arith,
      count_append j (replicate c s) (expand (suc s) cs),
      sum-replicate (eqb s j) (λ x. bit (eqb x j)) c s refl,
      count-at-expand j (suc s) cs,
    )

pub at-is : (r : Row) (j : ℕ) → at r j ≡ count_at r.start r.counts j
at-is r j = sym (count-expand r j) ∙ count-at-expand j r.start r.counts

-- ---- lowered

-- what a lowered row counts
counted : (k : ℕ) (xs : List ℕ) (j : ℕ) → at (lowered k (row_of xs)) j ≡ count j (map (λ i. i / 2 ^ k) xs)
counted k xs j =
    let r = row_of xs in
    at-is (lowered k r) j
    ∙ count_at-downscaled k r.start r.counts j
    ∙ counts-bucket k r.start r.counts j
    ∙ sym (sum-expand k j r.start r.counts)
    ∙ expand-row_of xs (λ i. bit (eqb (i / 2 ^ k) j))
    ∙ sym (sum-map (λ x. bit (eqb x j)) (λ i. i / 2 ^ k) xs)

pub lowered-row_of : (k : ℕ) (xs : List ℕ) → lowered k (row_of xs) ≡ row_of (map (λ i. i / 2 ^ k) xs)
unfolding row_of downscaled
lowered-row_of k [] = row_path (lowered k (row_of [])) (row_of []) (zero-div (2 ^ k)) refl
lowered-row_of k (x ∷ xs) =
    let lo = lowest x xs in
    let hi = highest x xs in
    let f : ℕ → ℕ = λ i. count i (x ∷ xs) in
    let e = ends_of x xs in
    let g = e.all hi e.high in
    let cs = table f (suc lo) (hi - lo) in
    let q : lo + length cs ≡ hi = omega (arith, length-table f (suc lo) (hi - lo)) in
    row-by-ends (lowered k (row_of (x ∷ xs))) (lo / 2 ^ k) (hi / 2 ^ k) (map (λ i. i / 2 ^ k) (x ∷ xs))
    (ends-map (λ i. i / 2 ^ k) (λ a b. shr_mono k) lo hi (x ∷ xs) e)
    refl
    (omega (arith, rw q at (length-downscaled-is k lo (f lo) cs), shr_mono {a = lo} {b = hi} k g.0))
    (counted k (x ∷ xs))

-- ---- one more

pick-zero : (b : Bool) → pick {A = ℕ} b 0 0 ≡ 0
unfolding pick
pick-zero true = refl
pick-zero false = refl

pub count_at-add_at : (s k v : ℕ) (xs : List ℕ) (j : ℕ) → count_at s (add_at k v xs) j ≡ count_at s xs j + pick (eqb (s + k) j) v 0
unfolding count_at add_at
count_at-add_at s zero v [] j = rw (add-zero s) (omega arith)
count_at-add_at s zero v (x ∷ xs) j = rw (add-zero s) (omega (arith, pick-add (eqb s j) x v))
count_at-add_at s (suc k) v [] j =
    let e : suc s + k ≡ s + suc k = omega arith in
    omega (arith, pick-zero (eqb s j), rw e at (count_at-add_at (suc s) k v [] j))
count_at-add_at s (suc k) v (x ∷ xs) j =
    let e : suc s + k ≡ s + suc k = omega arith in
    omega (arith, rw e at (count_at-add_at (suc s) k v xs j))

pub count_at-zeros : (s k : ℕ) (xs : List ℕ) (j : ℕ) → count_at s (replicate k 0 ++ xs) j ≡ count_at (s + k) xs j
unfolding count_at
count_at-zeros s zero xs j = rw (add-zero s) refl
count_at-zeros s (suc k) xs j =
    let e : suc s + k ≡ s + suc k = omega arith in
    omega (arith, pick-zero (eqb s j), rw e at (count_at-zeros (suc s) k xs j))

count_at-recorded : (s : ℕ) (xs : List ℕ) (i j : ℕ) → count_at (recorded_from s xs i) (recorded s xs i) j ≡ count_at s xs j + pick (eqb i j) 1 0
unfolding count_at recorded recorded_from
count_at-recorded s [] i j = omega arith
count_at-recorded s (x ∷ xs) i j =
    let e₁ : min s i + (i - s) ≡ i = omega arith in
    let e₂ : min s i + (s - i) ≡ s = omega arith in
    count_at-add_at (min s i) (i - s) 1 (replicate (s - i) 0 ++ x ∷ xs) j
    ∙ ap (λ n. n + pick (eqb (min s i + (i - s)) j) 1 0) (count_at-zeros (min s i) (s - i) (x ∷ xs) j)
    ∙ rw (e₁, e₂) refl

pub length-replicate : (k : ℕ) → length (replicate {A = ℕ} k 0) ≡ k
length-replicate zero = refl
length-replicate (suc k) = ap suc (length-replicate k)

pub length-recorded : (s x : ℕ) (xs : List ℕ) (i : ℕ) → length (recorded s (x ∷ xs) i) ≡ suc (max (s + length xs) i - min s i)
unfolding recorded
length-recorded s x xs i =
    let n : length (replicate (s - i) 0 ++ x ∷ xs) ≡ (s - i) + suc (length xs) = length-append (replicate (s - i) 0) (x ∷ xs) ∙ ap (λ m. m + suc (length xs)) (length-replicate (s - i)) in
    ⊎_elim
    (λ (h : length (replicate (s - i) 0 ++ x ∷ xs) ≤ i - s). omega (arith, n, length-add_at-out (i - s) 1 (replicate (s - i) 0 ++ x ∷ xs) h))
    (λ (h : i - s < length (replicate (s - i) 0 ++ x ∷ xs)). omega (arith, n, length-add_at_in (i - s) 1 (replicate (s - i) 0 ++ x ∷ xs) h))
    (le_or-lt (length (replicate (s - i) 0 ++ x ∷ xs)) (i - s))

-- the ends of the one bin b
ends-one : (b : ℕ) → Ends b b (b ∷ [])
ends-one b = ends_of b []

pub ends-with1 : (xs : List ℕ) (b : ℕ) → Ends (low_bin (row_of xs).start (length (row_of xs).counts) b) (high_bin (row_of xs).start (length (row_of xs).counts) b) (xs ++ b ∷ [])
unfolding row_of low_bin high_bin pick
ends-with1 [] b = ends-one b
ends-with1 (x ∷ xs) b =
    let lo = lowest x xs in
    let hi = highest x xs in
    let f : ℕ → ℕ = λ i. count i (x ∷ xs) in
    let e = ends_of x xs in
    let n = length (table f (suc lo) (hi - lo)) in
    let q : lo + n ≡ hi = omega (arith, length-table f (suc lo) (hi - lo), e.all hi e.high) in
    rw (eqb-suc-zero n, q) (ends_append lo hi b b (x ∷ xs) (b ∷ []) e (ends-one b))

starts : (xs : List ℕ) (b : ℕ) → (with1 (row_of xs) b).start ≡ low_bin (row_of xs).start (length (row_of xs).counts) b
unfolding row_of low_bin recorded_from pick
starts [] b = refl
starts (x ∷ xs) b = rw (eqb-suc-zero (length (table (λ i. count i (x ∷ xs)) (suc (lowest x xs)) (highest x xs - lowest x xs)))) refl

lengths : (xs : List ℕ) (b : ℕ) → length (with1 (row_of xs) b).counts
    ≡ suc (high_bin (row_of xs).start (length (row_of xs).counts) b - low_bin (row_of xs).start (length (row_of xs).counts) b)
unfolding row_of low_bin high_bin recorded pick
lengths [] b = omega arith
lengths (x ∷ xs) b =
    let lo = lowest x xs in
    let f : ℕ → ℕ = λ i. count i (x ∷ xs) in
    let cs = table f (suc lo) (highest x xs - lo) in
    rw (eqb-suc-zero (length cs)) (length-recorded lo (f lo) cs b)

pub with1-row_of : (xs : List ℕ) (b : ℕ) → with1 (row_of xs) b ≡ row_of (xs ++ b ∷ [])
with1-row_of xs b =
    row-by-ends (with1 (row_of xs) b) _ _ (xs ++ b ∷ []) (ends-with1 xs b) (starts xs b) (lengths xs b)
    (λ j. at-is (with1 (row_of xs) b) j ∙ count_at-recorded (row_of xs).start (row_of xs).counts b j
    ∙ omega (arith, at-is (row_of xs) j, at-row_of xs j, count_append j xs (b ∷ []), sum-replicate (eqb b j) (λ x. bit (eqb x j)) 1 b refl))

min_shr : (k s b : ℕ) → min s b / 2 ^ k ≡ min (s / 2 ^ k) (b / 2 ^ k)
min_shr k s b =
    ⊎_elim
    (λ (h : s ≤ b). rw (min-eq_left h) (omega (arith, shr_mono k h)))
    (λ (h : b < s). let g : b ≤ s = omega arith in rw (min-eq_right g) (omega (arith, shr_mono k g)))
    (le_or-lt s b)

from_empty : (k s b : ℕ) → recorded_from s [] b / 2 ^ k ≡ recorded_from (s / 2 ^ k) (downscaled k s []) (b / 2 ^ k)
unfolding recorded_from downscaled
from_empty k s b = refl

from_some : (s : ℕ) (xs : List ℕ) (b : ℕ) → 0 < length xs → min s b ≡ recorded_from s xs b
unfolding recorded_from
from_some s [] b h = absurd (omega arith)
from_some s (x ∷ xs) b h = refl

from : (k s : ℕ) (xs : List ℕ) (b : ℕ) → recorded_from s xs b / 2 ^ k ≡ recorded_from (s / 2 ^ k) (downscaled k s xs) (b / 2 ^ k)
unfolding recorded_from
from k s [] b = from_empty k s b
from k s (x ∷ xs) b = min_shr k s b ∙ from_some (s / 2 ^ k) (downscaled k s (x ∷ xs)) (b / 2 ^ k) (downscaled-some k s (x ∷ xs) (omega arith))

-- lowering and one more may be done in either order
pub lowered-with1 : (k : ℕ) (r : Row) (b : ℕ) → lowered k (with1 r b) ≡ with1 (lowered k r) (b / 2 ^ k)
lowered-with1 k r b =
    row_path (lowered k (with1 r b)) (with1 (lowered k r) (b / 2 ^ k)) (from k r.start r.counts b) (downscaled-recorded k r.start b r.counts)
