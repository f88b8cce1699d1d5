-- Totals of whole numbers: in any order and in parts; in i64 where the magnitudes total at most 2 ^ 63 - 1. Assumes nothing.
use Rattle.std.proofs.Common.{◌≡◌, ℕ, ◌+◌, ◌^◌, ◌<◌, ◌≤◌, true, List, [], ◌∷◌, ◌++◌, ℤ, pos, negsuc, ◌+ℤ◌, nat_abs, sym, ap, ◌∙◌, arith, lt-ltb}
use mathlib.Core.List.{foldl, Permᴰ}
use lib.IntN.{+ℤ_assoc, +ℤ_comm, +ℤ_idl, +ℤ_idr}
use lib.Signed.{mag}
use Rattle.laws.proofs.Lists.{foldr-perm}
use Rattle.floats.proofs.Sums.{abs-add}
use Rattle.integers.specs.Answers.{in_range}
use Rattle.integers.specs.Totals.{total, weight}

-- ---- THE TOTAL, from left to right, in any order, in parts
pub added-up : (z : ℤ) (xs : List ℤ) → foldl (λ t x. t +ℤ x) z xs ≡ z +ℤ total xs
unfolding total
added-up z [] = sym (+ℤ_idr z)
added-up z (x ∷ xs) = added-up (z +ℤ x) xs ∙ +ℤ_assoc z x (total xs)

pub total-is : (xs : List ℤ) → foldl (λ t x. t +ℤ x) (pos 0) xs ≡ total xs
total-is xs = added-up (pos 0) xs ∙ +ℤ_idl (total xs)

pub total-perm : {xs ys : List ℤ} → Permᴰ xs ys → total xs ≡ total ys
unfolding total
total-perm p =
    foldr-perm (λ x t. x +ℤ t) (λ a b z. sym (+ℤ_assoc a b z) ∙ ap (λ (d : ℤ). d +ℤ z) (+ℤ_comm a b) ∙ +ℤ_assoc b a z) (pos 0) p

pub total_append : (xs ys : List ℤ) → total (xs ++ ys) ≡ total xs +ℤ total ys
unfolding total
total_append [] ys = sym (+ℤ_idl (total ys))
total_append (x ∷ xs) ys = ap (λ (t : ℤ). x +ℤ t) (total_append xs ys) ∙ sym (+ℤ_assoc x (total xs) (total ys))

-- ---- THE MAGNITUDES
pub weight-perm : {xs ys : List ℤ} → Permᴰ xs ys → weight xs ≡ weight ys
unfolding weight
weight-perm p = foldr-perm (λ x t. nat_abs x + t) (λ a b z. omega arith) 0 p

pub weight_append : (xs ys : List ℤ) → weight (xs ++ ys) ≡ weight xs + weight ys
unfolding weight
weight_append [] ys = omega arith
weight_append (x ∷ xs) ys = omega (arith, weight_append xs ys)

pub total-weight : (xs : List ℤ) → nat_abs (total xs) ≤ weight xs
unfolding total weight
total-weight [] = omega arith
total-weight (x ∷ xs) = omega (arith, total-weight xs, abs-add x (total xs))

mag_abs : (z : ℤ) → mag z ≤ nat_abs z
mag_abs (pos n) = omega arith
mag_abs (negsuc n) = omega arith

-- A TOTAL OF MAGNITUDES UP TO 2 ^ 63 - 1 STAYS IN i64
pub in-range : (z : ℤ) (n : ℕ) → nat_abs z ≤ n → n < 2 ^ 63 → in_range z ≡ true
in-range z n h k = lt-ltb (mag z) (2 ^ 63) (omega (arith, mag_abs z, h, k))

pub total-range : (xs : List ℤ) → weight xs < 2 ^ 63 → in_range (total xs) ≡ true
total-range xs h = in-range (total xs) (weight xs) (total-weight xs) h
