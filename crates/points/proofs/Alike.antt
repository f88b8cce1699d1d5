-- Lists of bins that cannot be told apart from some level on. Assumes nothing.
use Prim.Native.Nat.{ℕ, ◌+◌, ◌-◌, ◌*◌, ◌/◌, ◌^◌, ◌≤◌}
use mathlib.Core.Path.{◌≡◌, refl, ap, sym, ◌∙◌}
use mathlib.Core.List.{List, [], ◌∷◌, ◌++◌, map}
use native.Mathlib.Omega.{arith}
use lib.Pow.{shr-shr, shl-shr}
use Rattle.laws.specs.Counting.{sum}
use Rattle.laws.proofs.Same.{Same, sum-map}
use Rattle.points.specs.Points.{row, expand, indices}
use Rattle.points.proofs.Rows.{row_of-cong, expand-row_of}

-- lists of finest bins that cannot be told apart k steps below
abbrev pub Alike : ℕ → List ℕ → List ℕ → Type 0
Alike k xs ys = Same (map (λ i. i / 2 ^ k) xs) (map (λ i. i / 2 ^ k) ys)

coarser : (w : ℕ → ℕ) (k j : ℕ) (xs : List ℕ) → sum w (map (λ i. i / 2 ^ (k + j)) xs) ≡ sum (λ y. w (y / 2 ^ j)) (map (λ i. i / 2 ^ k) xs)
coarser w k j [] = refl
coarser w k j (x ∷ xs) = omega (arith, ap w (shr-shr x k j), coarser w k j xs)

pub alike-coarser : (k e : ℕ) (xs ys : List ℕ) → k ≤ e → Alike k xs ys → Alike e xs ys
alike-coarser k e xs ys h a w =
    let q : k + (e - k) ≡ e = omega arith in
    rw q at (coarser w k (e - k) xs ∙ a (λ y. w (y / 2 ^ (e - k))) ∙ sym (coarser w k (e - k) ys))

sum-map_append : (w f : ℕ → ℕ) (xs ys : List ℕ) → sum w (map f (xs ++ ys)) ≡ sum w (map f xs) + sum w (map f ys)
sum-map_append w f [] ys = omega arith
sum-map_append w f (x ∷ xs) ys = omega (arith, sum-map_append w f xs ys)

pub alike_append : (k : ℕ) (xs xs' ys : List ℕ) → Alike k xs xs' → Alike k (xs ++ ys) (xs' ++ ys)
alike_append k xs xs' ys a w =
    omega (arith, a w, sum-map_append w (λ i. i / 2 ^ k) xs ys, sum-map_append w (λ i. i / 2 ^ k) xs' ys)

pub alike-of-same : (k : ℕ) (xs ys : List ℕ) → Same xs ys → Alike k xs ys
alike-of-same k xs ys h w = sum-map w (λ i. i / 2 ^ k) xs ∙ h (λ i. w (i / 2 ^ k)) ∙ sym (sum-map w (λ i. i / 2 ^ k) ys)

pub up-down : (w : ℕ → ℕ) (d : ℕ) (xs : List ℕ) → sum w (map (λ i. i / 2 ^ d) (map (λ i. i * 2 ^ d) xs)) ≡ sum w xs
up-down w d [] = refl
up-down w d (x ∷ xs) = omega (arith, ap w (shl-shr x d), up-down w d xs)

-- what a row d steps below the finest level stands for cannot be told from the list there
pub indices-alike : (d : ℕ) (xs : List ℕ) → Alike d (indices d (row d xs)) xs
unfolding indices row
indices-alike d xs w =
    up-down w d (expand (row d xs).start (row d xs).counts) ∙ expand-row_of (map (λ i. i / 2 ^ d) xs) w

pub row-alike : (d : ℕ) (xs ys : List ℕ) → Alike d xs ys → row d xs ≡ row d ys
unfolding row
row-alike d xs ys h = row_of-cong (map (λ i. i / 2 ^ d) xs) (map (λ i. i / 2 ^ d) ys) h
