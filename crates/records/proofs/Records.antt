-- Words come back out of their records, and out of their filling. Assumes nothing.
use Prim.Native.Nat.{ℕ, suc}
use mathlib.Core.Path.{◌≡◌, refl, ap}
use mathlib.Core.List.{List, [], ◌∷◌, ◌++◌}
use native.Mathlib.Omega.{arith}
use lib.ListN.{length, take}
use Rattle.records.specs.Records.{chained, unchained, padded, width}

-- whole records
pub data Whole : List ℕ → Type 0 where
  none : Whole []
  more : {a b c : ℕ} {ws : List ℕ} → Whole ws → Whole (a ∷ b ∷ c ∷ ws)

pub whole_append : {xs ys : List ℕ} → Whole xs → Whole ys → Whole (xs ++ ys)
whole_append none q = q
whole_append (more p) q = more (whole_append p q)

pub whole-padded : (xs : List ℕ) → Whole (padded xs)
unfolding padded
whole-padded [] = none
whole-padded (a ∷ []) = more none
whole-padded (a ∷ b ∷ []) = more none
whole-padded (a ∷ b ∷ c ∷ xs) = more (whole-padded xs)

pub unchained-own : (info k : ℕ) {ws : List ℕ} → Whole ws → unchained (chained info k ws) ≡ ws
unfolding chained unchained
unchained-own info k none = refl
unchained-own info k (more {a = a} {b = b} {c = c} {ws = ws} p) = ap (λ (l : List ℕ). a ∷ b ∷ c ∷ l) (unchained-own 0 (suc k) p)

pub length-padded : (xs : List ℕ) → length (padded xs) ≡ width (length xs)
unfolding padded width
length-padded [] = refl
length-padded (a ∷ []) = refl
length-padded (a ∷ b ∷ []) = refl
length-padded (a ∷ b ∷ c ∷ xs) = omega (arith, length-padded xs)

pub take-padded : (xs ys : List ℕ) → take (length xs) (padded xs ++ ys) ≡ xs
unfolding padded
take-padded [] ys = refl
take-padded (a ∷ []) ys = refl
take-padded (a ∷ b ∷ []) ys = refl
take-padded (a ∷ b ∷ c ∷ xs) ys = ap (λ (l : List ℕ). a ∷ b ∷ c ∷ l) (take-padded xs ys)

pub whole-nine : (xs : List ℕ) → length xs ≡ 9 → Whole xs
whole-nine (a ∷ b ∷ c ∷ d ∷ e ∷ f ∷ g ∷ h ∷ i ∷ []) p = more (more (more none))
whole-nine [] p = absurd (omega arith)
whole-nine (a ∷ []) p = absurd (omega arith)
whole-nine (a ∷ b ∷ []) p = absurd (omega arith)
whole-nine (a ∷ b ∷ c ∷ []) p = absurd (omega arith)
whole-nine (a ∷ b ∷ c ∷ d ∷ []) p = absurd (omega arith)
whole-nine (a ∷ b ∷ c ∷ d ∷ e ∷ []) p = absurd (omega arith)
whole-nine (a ∷ b ∷ c ∷ d ∷ e ∷ f ∷ []) p = absurd (omega arith)
whole-nine (a ∷ b ∷ c ∷ d ∷ e ∷ f ∷ g ∷ []) p = absurd (omega arith)
whole-nine (a ∷ b ∷ c ∷ d ∷ e ∷ f ∷ g ∷ h ∷ []) p = absurd (omega arith)
whole-nine (a ∷ b ∷ c ∷ d ∷ e ∷ f ∷ g ∷ h ∷ i ∷ j ∷ xs) p = absurd (omega arith)
