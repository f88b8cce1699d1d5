-- The laws of a test of every number below a bound, for all loops that check. Assumes nothing.
use mathlib.Core.Path.{◌≡◌, refl, sym, subst}
use mathlib.Core.Bool.{Bool, true, false, and-false}
use mathlib.Core.Logic.{⊎_elim}
use Prim.Native.Nat.{ℕ, zero, suc, ◌+◌, ◌≤◌, ◌<◌}
use native.Mathlib.Nat.{eq-or-lt_of_le}
use native.Mathlib.Numerals.{add-one}
use native.Mathlib.Omega.{arith}
use Rattle.laws.proofs.Bools.{and_left, and_right}
use Rattle.sets.specs.All.{allb}

module _ (f : ℕ → Bool) where
  pub allb-none : allb 0 f ≡ true
  unfolding allb
  allb-none = refl

  pub allb-more : (n : ℕ) → allb n f ≡ true → f n ≡ true → allb (n + 1) f ≡ true
  unfolding allb
  allb-more n a h = rw add-one (simp (a, h))

  pub allb-no : (n i : ℕ) → i < n → f i ≡ false → allb n f ≡ false
  unfolding allb
  allb-no zero i h e = absurd (omega arith)
  allb-no (suc n) i h e =
      ⊎_elim (λ d. let g : f n ≡ false = subst (λ (k : ℕ). f k ≡ false) d e in simp g (and-false (allb n f)))
      (λ l. simp (allb-no n i l e))
      (eq-or-lt_of_le (let w : i ≤ n = omega arith in w))

  pub allb-at : (n : ℕ) → allb n f ≡ true → (i : ℕ) → i < n → f i ≡ true
  unfolding allb
  allb-at zero a i h = absurd (omega arith)
  allb-at (suc n) a i h =
      ⊎_elim (λ d. subst (λ (k : ℕ). f k ≡ true) (sym d) (and_right (allb n f) (f n) a))
      (λ l. allb-at n (and_left (allb n f) (f n) a) i l)
      (eq-or-lt_of_le (let w : i ≤ n = omega arith in w))

  pub allb-yes : (n : ℕ) → ((i : ℕ) → i < n → f i ≡ true) → allb n f ≡ true
  unfolding allb
  allb-yes zero h = refl
  allb-yes (suc n) h = simp (allb-yes n (λ i l. h i (omega arith)), h n (omega arith))
