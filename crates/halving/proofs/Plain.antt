-- The plain form is `downscaled`: halving d times counts the bins i with the same i / 2 ^ d as one. Assumes nothing.
use mathlib.Core.Path.{◌≡◌, refl, sym, ap, ◌∙◌}
use mathlib.Core.Logic.{⊎_elim, ◌⊎◌, inl, inr}
use mathlib.Core.List.{List, [], ◌∷◌}
use Prim.Native.Nat.{ℕ, zero, suc, ◌/◌, ◌%◌, ◌^◌, ◌≤◌, ◌<◌}
use native.Mathlib.Nat.{div-one}
use native.Mathlib.Numerals.{one-add}
use native.Mathlib.Omega.{arith}
use lib.Dec.{eqb}
use lib.Pow.{shr-shr}
use borrow.Author.Tests.{eq-eqb, ne_eqb}
use Rattle.laws.specs.Pick.{pick}
use Rattle.laws.proofs.Differences.{le_or-lt}
use Rattle.rows.specs.Rows.{onto, downscaled}
use Rattle.rows.proofs.Laws.{onto_nil}
use Rattle.rows.proofs.Algebra.{downscaled-twice}
use Rattle.rows.proofs.Cuts.{downscaled-none}
use Rattle.halving.specs.Plain.{paired, halved_once, plain_start, plain_counts}

pub parity : (s : ℕ) → (s % 2 ≡ 0) ⊎ (s % 2 ≡ 1)
parity s = ⊎_elim (λ (h : s % 2 ≤ 0). inl (omega arith)) (λ (h : 0 < s % 2). inr (omega arith)) (le_or-lt (s % 2) 0)

paired_is : (s : ℕ) (xs : List ℕ) → s % 2 ≡ 0 → paired xs ≡ downscaled 1 s xs
unfolding paired downscaled onto
paired_is s [] h = refl
paired_is s (x ∷ []) h = sym (onto_nil (eqb (s / 2) (suc s / 2)) x)
paired_is s (x ∷ y ∷ r) h =
    rw (eq-eqb (s / 2) (suc s / 2) (omega arith), ne_eqb (suc s / 2) (suc (suc s) / 2) (omega arith), paired_is (suc (suc s)) r (omega arith))

pub once_is : (s : ℕ) (xs : List ℕ) → halved_once s xs ≡ downscaled 1 s xs
unfolding halved_once pick downscaled onto
once_is s [] = refl
once_is s (x ∷ xs) = go (parity s)
  where
    go : (s % 2 ≡ 0) ⊎ (s % 2 ≡ 1) → halved_once s (x ∷ xs) ≡ downscaled 1 s (x ∷ xs)
    go (inl h) = rw (eq-eqb (s % 2) 0 h) (paired_is s (x ∷ xs) h)
    go (inr h) = rw (ne_eqb (s % 2) 0 (omega arith), ne_eqb (s / 2) (suc s / 2) (omega arith), paired_is (suc s) xs (omega arith))

plain-start : (d s : ℕ) → s / 2 ^ d ≡ plain_start d s
unfolding plain_start
plain-start zero s = div-one s
plain-start (suc d) s = sym (rw one-add at (shr-shr s 1 d)) ∙ plain-start d (s / 2)

plain-counts : (d s : ℕ) (xs : List ℕ) → downscaled d s xs ≡ plain_counts d s xs
unfolding plain_counts
plain-counts zero s xs = downscaled-none s xs
plain-counts (suc d) s xs =
    sym (rw one-add at (downscaled-twice 1 d s xs)) ∙ ap (downscaled d (s / 2)) (sym (once_is s xs)) ∙ plain-counts d (s / 2) (halved_once s xs)

-- so what `rows::downscale` owes is the plain form
pub plain_form : (d s : ℕ) (xs : List ℕ) → (s / 2 ^ d ≡ plain_start d s) × (downscaled d s xs ≡ plain_counts d s xs)
plain_form d s xs = (plain-start d s, plain-counts d s xs)
