-- The algebra of rows: what downscaling does to a row that is downscaled, recorded into or added to. Assumes nothing.
use mathlib.Core.Path.{◌≡◌, refl, sym, ap, ◌∙◌}
use mathlib.Core.Logic.{⊎_elim, ◌⊎◌}
use mathlib.Core.Bool.{Bool, true, false}
use mathlib.Core.List.{List, [], ◌∷◌, ◌++◌}
use Prim.Native.Nat.{ℕ, zero, suc, ◌+◌, ◌-◌, ◌/◌, ◌^◌, ◌≤◌, ◌<◌, min}
use native.Mathlib.Nat.{not-suc-le-zero, zero-add, add-zero, add-suc, suc-add, add_assoc, sub_self}
use native.Mathlib.Omega.{arith}
use lib.Dec.{eqb}
use lib.Pow.{pow_pos, shr_mono, shr-shr}
use lib.ListN.{length, length-append, replicate}
use borrow.Author.Tests.{eq-eqb, ne_eqb}
pub use Rattle.laws.proofs.Differences.{le_or-lt}
use Rattle.rows.specs.Rows.{add_at, add_all, onto, downscaled, recorded, recorded_from}
use Rattle.laws.specs.Pick.{pick}
use Rattle.rows.proofs.Laws.{next-div, onto_nil, snoc-step}

-- ---- downscaled twice

onto-first : (t : Bool) (x y : ℕ) (r : List ℕ) → onto t (x + y) r ≡ onto true x (onto t y r)
unfolding onto
onto-first true x y [] = refl
onto-first true x y (z ∷ r) = ap (λ (n : ℕ). n ∷ r) (add_assoc x y z)
onto-first false x y r = refl

-- more in the first count is more in the first of the groups
downscaled-onto : (b s x : ℕ) (r : List ℕ) → downscaled b s (onto true x r) ≡ onto true x (downscaled b s r)
unfolding downscaled onto
downscaled-onto b s x [] = onto_nil (eqb (s / 2 ^ b) (suc s / 2 ^ b)) x
downscaled-onto b s x (y ∷ r) = onto-first (eqb (s / 2 ^ b) (suc s / 2 ^ b)) x y (downscaled b (suc s) r)

twice-step : (b q q' x : ℕ) (r t : List ℕ) → (q' ≡ q) ⊎ (q' ≡ suc q) → downscaled b q' r ≡ t
    → downscaled b q (onto (eqb q q') x r) ≡ onto (eqb (q / 2 ^ b) (q' / 2 ^ b)) x t
unfolding onto downscaled
twice-step b q q' x r t w e =
    ⊎_elim
    (λ (p : q' ≡ q). rw (p, eq-eqb q q refl, eq-eqb (q / 2 ^ b) (q / 2 ^ b) refl) (downscaled-onto b q x r ∙ ap (onto true x) (rw p at e)))
    (λ (p : q' ≡ suc q). rw (ne_eqb q q' (omega arith), p) (ap (onto (eqb (q / 2 ^ b) (suc q / 2 ^ b)) x) (rw p at e)))
    w

pub downscaled-twice : (a b s : ℕ) (xs : List ℕ) → downscaled b (s / 2 ^ a) (downscaled a s xs) ≡ downscaled (a + b) s xs
unfolding downscaled
downscaled-twice a b s [] = refl
downscaled-twice a b s (x ∷ xs) =
    twice-step b (s / 2 ^ a) (suc s / 2 ^ a) x (downscaled a (suc s) xs) (downscaled (a + b) (suc s) xs) (next-div s (2 ^ a) (pow_pos a)) (downscaled-twice a b (suc s) xs)
    ∙ rw (shr-shr s a b, shr-shr (suc s) a b)

-- ---- downscaled after one more

add_at_nil : (k v : ℕ) → add_at k v (0 ∷ []) ≡ add_at k v []
unfolding add_at
add_at_nil zero v = ap (λ (n : ℕ). n ∷ []) (zero-add v)
add_at_nil (suc k) v = refl

onto-add : (t : Bool) (x v : ℕ) (r : List ℕ) → onto t (x + v) r ≡ add_at 0 v (onto t x r)
unfolding onto add_at
onto-add true x v [] = refl
onto-add true x v (y ∷ r) = ap (λ (n : ℕ). n ∷ r) (omega arith)
onto-add false x v r = refl

pub downscaled-add_at : (d s k v : ℕ) (xs : List ℕ) → downscaled d s (add_at k v xs) ≡ add_at ((s + k) / 2 ^ d - s / 2 ^ d) v (downscaled d s xs)
unfolding downscaled add_at
downscaled-add_at d s zero v [] = onto_nil (eqb (s / 2 ^ d) (suc s / 2 ^ d)) v ∙ rw (add-zero s, sub_self (s / 2 ^ d))
downscaled-add_at d s zero v (x ∷ xs) = onto-add (eqb (s / 2 ^ d) (suc s / 2 ^ d)) x v (downscaled d (suc s) xs) ∙ rw (add-zero s, sub_self (s / 2 ^ d))
downscaled-add_at d s (suc k) v [] =
    ap (λ (r : List ℕ). onto (eqb (s / 2 ^ d) (suc s / 2 ^ d)) 0 r) (downscaled-add_at d (suc s) k v [])
    ∙ simp (suc-add, add-suc) (
    snoc-step (s / 2 ^ d) (suc s / 2 ^ d) (suc (s + k) / 2 ^ d) v 0 [] (shr_mono d (omega arith)) (next-div s (2 ^ d) (pow_pos d))
    ∙ ap (add_at (suc (s + k) / 2 ^ d - s / 2 ^ d) v) (onto_nil (eqb (s / 2 ^ d) (suc s / 2 ^ d)) 0)
    ∙ add_at_nil (suc (s + k) / 2 ^ d - s / 2 ^ d) v)
downscaled-add_at d s (suc k) v (x ∷ xs) =
    ap (λ (r : List ℕ). onto (eqb (s / 2 ^ d) (suc s / 2 ^ d)) x r) (downscaled-add_at d (suc s) k v xs)
    ∙ simp (suc-add, add-suc) (snoc-step (s / 2 ^ d) (suc s / 2 ^ d) (suc (s + k) / 2 ^ d) v x (downscaled d (suc s) xs) (shr_mono d (omega arith)) (next-div s (2 ^ d) (pow_pos d)))

-- ---- a row added to a row

add_at-twice : (k v w : ℕ) (xs : List ℕ) → add_at k w (add_at k v xs) ≡ add_at k (v + w) xs
unfolding add_at
add_at-twice zero v w [] = refl
add_at-twice zero v w (x ∷ xs) = ap (λ (n : ℕ). n ∷ xs) (add_assoc x v w)
add_at-twice (suc k) v w [] = ap (λ (r : List ℕ). 0 ∷ r) (add_at-twice k v w [])
add_at-twice (suc k) v w (x ∷ xs) = ap (λ (r : List ℕ). x ∷ r) (add_at-twice k v w xs)

-- e is where a group begins, q' the quotient of the next index and q that of this one
pub add_all-step : (e q q' y : ℕ) (g xs : List ℕ) → e ≤ q → (q' ≡ q) ⊎ (q' ≡ suc q)
    → add_all (q' - e) g (add_at (q - e) y xs) ≡ add_all (q - e) (onto (eqb q q') y g) xs
unfolding add_all onto
add_all-step e q q' y g xs l w =
    ⊎_elim
    (λ (p : q' ≡ q). rw (p, eq-eqb q q refl) (same g))
    (λ (p : q' ≡ suc q). let k : q' - e ≡ suc (q - e) = omega arith in rw (ne_eqb q q' (omega arith), k))
    w
  where
    same : (g : List ℕ) → add_all (q - e) g (add_at (q - e) y xs) ≡ add_all (q - e) (onto true y g) xs
    same [] = refl
    same (z ∷ g) = ap (add_all (suc (q - e)) g) (add_at-twice (q - e) y z xs)

-- ---- what each index counts

-- the count at index i of the row that starts at s
unfoldable pub count_at : ℕ → List ℕ → ℕ → ℕ
count_at s [] i = 0
count_at s (x ∷ xs) i = pick (eqb s i) x 0 + count_at (suc s) xs i

-- the sum of the counts at the indices i with i / 2 ^ d = j
unfoldable pub counts_of : ℕ → ℕ → List ℕ → ℕ → ℕ
counts_of d s [] j = 0
counts_of d s (x ∷ xs) j = pick (eqb (s / 2 ^ d) j) x 0 + counts_of d (suc s) xs j

pub pick-add : (t : Bool) (x y : ℕ) → pick t (x + y) 0 ≡ pick t x 0 + pick t y 0
unfolding pick
pick-add true x y = refl
pick-add false x y = refl

count-step : (q q' x j : ℕ) (r : List ℕ) → (q' ≡ q) ⊎ (q' ≡ suc q) → count_at q (onto (eqb q q') x r) j ≡ pick (eqb q j) x 0 + count_at q' r j
unfolding count_at onto
count-step q q' x j r w =
    ⊎_elim
    (λ (p : q' ≡ q). rw (p, eq-eqb q q refl) (same r))
    (λ (p : q' ≡ suc q). rw (ne_eqb q q' (omega arith), p))
    w
  where
    same : (r : List ℕ) → count_at q (onto true x r) j ≡ pick (eqb q j) x 0 + count_at q r j
    same [] = refl
    same (y ∷ r) = ap (λ (n : ℕ). n + count_at (suc q) r j) (pick-add (eqb q j) x y) ∙ add_assoc (pick (eqb q j) x 0) (pick (eqb q j) y 0) (count_at (suc q) r j)

pub count_at-downscaled : (d s : ℕ) (xs : List ℕ) (j : ℕ) → count_at (s / 2 ^ d) (downscaled d s xs) j ≡ counts_of d s xs j
unfolding count_at counts_of downscaled
count_at-downscaled d s [] j = refl
count_at-downscaled d s (x ∷ xs) j =
    count-step (s / 2 ^ d) (suc s / 2 ^ d) x j (downscaled d (suc s) xs) (next-div s (2 ^ d) (pow_pos d))
    ∙ ap (λ (n : ℕ). pick (eqb (s / 2 ^ d) j) x 0 + n) (count_at-downscaled d (suc s) xs j)

-- ---- how long a downscaled row is

onto-some : (t : Bool) (x : ℕ) (r : List ℕ) → 0 < length (onto t x r)
unfolding onto
onto-some true x [] = omega arith
onto-some true x (y ∷ r) = omega arith
onto-some false x r = omega arith

length-onto-true : (x : ℕ) (r : List ℕ) → 0 < length r → length (onto true x r) ≡ length r
unfolding onto
length-onto-true x [] h = absurd (not-suc-le-zero h)
length-onto-true x (y ∷ r) h = refl

pub length-step : (q q' e x : ℕ) (r : List ℕ) → 0 < length r → length r + q' ≡ e → (q' ≡ q) ⊎ (q' ≡ suc q) → length (onto (eqb q q') x r) + q ≡ e
unfolding onto
length-step q q' e x r h l w =
    ⊎_elim
    (λ (p : q' ≡ q). rw (eq-eqb q q' (sym p), length-onto-true x r h) (omega arith))
    (λ (p : q' ≡ suc q). rw (ne_eqb q q' (omega arith)) (omega arith))
    w

pub downscaled-some : (d s : ℕ) (xs : List ℕ) → 0 < length xs → 0 < length (downscaled d s xs)
unfolding downscaled
downscaled-some d s [] h = absurd (not-suc-le-zero h)
downscaled-some d s (x ∷ xs) h = onto-some (eqb (s / 2 ^ d) (suc s / 2 ^ d)) x (downscaled d (suc s) xs)

pub length-downscaled-is : (d s x : ℕ) (xs : List ℕ) → length (downscaled d s (x ∷ xs)) + s / 2 ^ d ≡ suc ((s + length xs) / 2 ^ d)
unfolding downscaled
length-downscaled-is d s x [] = rw (onto_nil (eqb (s / 2 ^ d) (suc s / 2 ^ d)) x, add-zero s) (omega arith)
length-downscaled-is d s x (y ∷ ys) =
    simp add-suc
    (length-step (s / 2 ^ d) (suc s / 2 ^ d) (suc (suc (s + length ys) / 2 ^ d)) x (downscaled d (suc s) (y ∷ ys))
    (downscaled-some d (suc s) (y ∷ ys) (omega arith)) (simp suc-add at (length-downscaled-is d (suc s) y ys)) (next-div s (2 ^ d) (pow_pos d)))

-- ---- downscaled after one more, at an index: the same as one more after it was downscaled

onto-zero : (r : List ℕ) → 0 < length r → onto true 0 r ≡ r
unfolding onto
onto-zero [] h = absurd (not-suc-le-zero h)
onto-zero (y ∷ r) h = ap (λ (n : ℕ). n ∷ r) (zero-add y)

zeros-step : (q q' e : ℕ) (r : List ℕ) → 0 < length r → q' ≤ e → (q' ≡ q) ⊎ (q' ≡ suc q)
    → onto (eqb q q') 0 (replicate (e - q') 0 ++ r) ≡ replicate (e - q) 0 ++ r
unfolding onto
zeros-step q q' e r h l w =
    ⊎_elim
    (λ (p : q' ≡ q). rw (eq-eqb q q' (sym p), p) (onto-zero (replicate (e - q) 0 ++ r) (simp length-append (omega arith))))
    (λ (p : q' ≡ suc q). let k : e - q ≡ suc (e - q') = omega arith in rw (ne_eqb q q' (omega arith), k))
    w

pub downscaled-zeros : (d i k : ℕ) (xs : List ℕ) → 0 < length xs
    → downscaled d i (replicate k 0 ++ xs) ≡ replicate ((i + k) / 2 ^ d - i / 2 ^ d) 0 ++ downscaled d (i + k) xs
unfolding downscaled
downscaled-zeros d i zero xs h = rw (add-zero i, sub_self (i / 2 ^ d))
downscaled-zeros d i (suc k) xs h =
    ap (onto (eqb (i / 2 ^ d) (suc i / 2 ^ d)) 0) (downscaled-zeros d (suc i) k xs h)
    ∙ simp (suc-add, add-suc)
    (zeros-step (i / 2 ^ d) (suc i / 2 ^ d) (suc (i + k) / 2 ^ d) (downscaled d (suc (i + k)) xs)
    (downscaled-some d (suc (i + k)) xs h) (shr_mono d (omega arith)) (next-div i (2 ^ d) (pow_pos d)))

pub recorded-some : (s i : ℕ) (xs : List ℕ) → 0 < length xs → recorded s xs i ≡ add_at (i - s) 1 (replicate (s - i) 0 ++ xs)
unfolding recorded
recorded-some s i [] h = absurd (not-suc-le-zero h)
recorded-some s i (x ∷ xs) h = refl

-- the row that starts at the least of the two
spans : (d s i : ℕ) → (i / 2 ^ d - min s i / 2 ^ d ≡ i / 2 ^ d - s / 2 ^ d) × (s / 2 ^ d - min s i / 2 ^ d ≡ s / 2 ^ d - i / 2 ^ d)
spans d s i =
    ⊎_elim
    (λ (h : s ≤ i). let e : min s i ≡ s = omega arith in rw e (refl, omega (arith, shr_mono d h)))
    (λ (h : i < s). let e : min s i ≡ i = omega arith in rw e (omega (arith, shr_mono {a = i} {b = s} d (omega arith)), refl))
    (le_or-lt s i)

pub downscaled-recorded : (d s i : ℕ) (xs : List ℕ)
    → downscaled d (recorded_from s xs i) (recorded s xs i) ≡ recorded (s / 2 ^ d) (downscaled d s xs) (i / 2 ^ d)
unfolding recorded recorded_from downscaled
downscaled-recorded d s i [] = onto_nil (eqb (i / 2 ^ d) (suc i / 2 ^ d)) 1
downscaled-recorded d s i (x ∷ xs) =
    let low = min s i in
    let e₁ : min s i + (i - s) ≡ i = omega arith in
    let e₂ : min s i + (s - i) ≡ s = omega arith in
    downscaled-add_at d low (i - s) 1 (replicate (s - i) 0 ++ x ∷ xs)
    ∙ ap (add_at ((low + (i - s)) / 2 ^ d - low / 2 ^ d) 1) (downscaled-zeros d low (s - i) (x ∷ xs) (omega arith))
    ∙ rw (e₁, e₂, (spans d s i).0, (spans d s i).1) (sym (recorded-some (s / 2 ^ d) (i / 2 ^ d) (downscaled d s (x ∷ xs)) (downscaled-some d s (x ∷ xs) (omega arith))))
