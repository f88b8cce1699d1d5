-- Whole numbers of 1/1024: the test, and how many an f64 is. Assumes nothing.
use mathlib.Core.Path.{◌≡◌, refl, sym, ap, ◌∙◌, subst}
use mathlib.Core.Bool.{Bool, true, false, false≢true}
use Prim.Native.Nat.{ℕ, zero, suc, ◌+◌, ◌*◌, ◌/◌, ◌%◌}
use native.Mathlib.Nat.{div-add-mod', mul-div_cancel}
use native.Mathlib.Omega.{arith}
use borrow.Author.Tests.{eqb-true, eq-eqb}
use lib.IntN.{ℤ, nat_abs}
use lib.Ieee.{Float, nan, inf, fin, up, down}
use lib.Ieee.Fits.{down_pos}
use Rattle.floats.specs.Grid.{signed, OnGrid, steps, Whole, is_whole}

-- ---- signs
pub abs-signed : (s : Bool) (n : ℕ) → nat_abs (signed s n) ≡ n
abs-signed true zero = refl
abs-signed true (suc n) = refl
abs-signed false n = refl

signed_abs : (s : Bool) (n : ℕ) → signed s (nat_abs (signed s n)) ≡ signed s n
signed_abs s n = ap (signed s) (abs-signed s n)

-- ---- the test is what `Whole` says
module _ (a d : ℕ) where
  pub none_left : a % d ≡ 0 → a ≡ a / d * d
  none_left h = go (a / d * d) (a % d) (div-add-mod' a d) h
    where
      go : (x r : ℕ) → x + r ≡ a → r ≡ 0 → a ≡ x
      go x r e f = omega (arith, e, f)

  pub left-none : a ≡ a / d * d → a % d ≡ 0
  left-none h = go (a / d * d) (a % d) (div-add-mod' a d) h
    where
      go : (x r : ℕ) → x + r ≡ a → a ≡ x → r ≡ 0
      go x r e f = omega (arith, e, f)

pub whole_is : (x : Float) → is_whole x ≡ true → Whole x
unfolding is_whole
whole_is nan h = absurd (false≢true h)
whole_is (inf s) h = absurd (false≢true h)
whole_is (fin s m e) h =
    let a = m * up e * 1024 in
    let d = down e in
    (none_left a d (eqb-true (a % d) 0 h) ∙ ap (λ (n : ℕ). n * d) (sym (abs-signed s (a / d))), signed_abs s (a / d))

pub is-whole : (x : Float) → Whole x → is_whole x ≡ true
unfolding is_whole
is-whole nan h = absurd h
is-whole (inf s) h = absurd h
is-whole (fin s m e) h =
    let a = m * up e * 1024 in
    let d = down e in
    eq-eqb (a % d) 0 (left-none a d (h.0 ∙ ap (λ (n : ℕ). n * d) (abs-signed s (a / d))))

-- x is z / 1024 for no z but its steps
pub steps-only : (x : Float) (z : ℤ) → OnGrid x z → steps x ≡ z
steps-only nan z h = absurd h
steps-only (inf s) z h = absurd h
steps-only (fin s m e) z h = ap (λ (n : ℕ). signed s (n / down e)) h.0 ∙ ap (signed s) (mul-div_cancel (nat_abs z) (down_pos e)) ∙ h.1

pub on-whole : (x : Float) (z : ℤ) → OnGrid x z → Whole x
on-whole x z h = subst (λ (w : ℤ). OnGrid x w) (sym (steps-only x z h)) h
