-- Digits read one after another, and written from the last on. Assumes nothing.
use Rattle.std.proofs.Common.{None, ◌≡◌, ℕ, suc, ◌+◌, ◌-◌, ◌*◌, ◌/◌, ◌%◌, ◌^◌, ◌<◌, ◌≤◌, true, false, List, [], ◌∷◌, length, get_or, drop, set, sym, refl, ap, ◌∙◌, div-lt_iff_lt-mul, pow-suc, le-div_iff_mul-le, add-one, arith, drop-cons, get_or-set_same, drop-set-lt, lt-length-set, le-leb}
use native.Mathlib.Nat.{div-div-eq-div-mul}
use borrow.Author.Tests.{lt-leb}
use Rattle.laws.specs.Pick.{pick}
use Rattle.laws.proofs.Bools.{not-both, pick_true, pick-false}
use Rattle.text.specs.Numbers.{digit_of, spelled_from, has_minus, glyph_of, hex_digits}

-- the list from a place on, by the element there
pub from-here : (i : ℕ) (bs : List ℕ) → i < length bs → drop i bs ≡ get_or bs i 0 ∷ drop (i + 1) bs
from-here i bs h = drop-cons bs i 0 h ∙ ap (λ (k : ℕ). get_or bs i 0 ∷ drop k bs) (sym (add-one i))

module _ (base x i : ℕ) (bs : List ℕ) (h : i < length bs) where
  pub no_digit : base ≤ digit_of (get_or bs i 0) → spelled_from base x (drop i bs) ≡ None
  unfolding spelled_from
  no_digit l = ap (spelled_from base x) (from-here i bs h) ∙ pick_true _ _ _ (le-leb base (digit_of (get_or bs i 0)) l)

  pub too_large : digit_of (get_or bs i 0) < base → 2 ^ 64 ≤ x * base + digit_of (get_or bs i 0) → spelled_from base x (drop i bs) ≡ None
  unfolding spelled_from
  too_large l g =
      ap (spelled_from base x) (from-here i bs h)
      ∙ pick-false _ _ _ (lt-leb base (digit_of (get_or bs i 0)) l)
      ∙ pick_true _ _ _ (le-leb (2 ^ 64) (x * base + digit_of (get_or bs i 0)) g)

  pub next_digit : digit_of (get_or bs i 0) < base → x * base + digit_of (get_or bs i 0) < 2 ^ 64 → spelled_from base x (drop i bs) ≡ spelled_from base (x * base + digit_of (get_or bs i 0)) (drop (i + 1) bs)
  unfolding spelled_from
  next_digit l g =
      ap (spelled_from base x) (from-here i bs h)
      ∙ pick-false _ _ _ (lt-leb base (digit_of (get_or bs i 0)) l)
      ∙ pick-false _ _ _ (lt-leb (2 ^ 64) (x * base + digit_of (get_or bs i 0)) g)

pub minus-length : (bs : List ℕ) → has_minus bs ≡ true → 1 ≤ length bs
unfolding has_minus pick
minus-length [] h = absurd (not-both false h refl)
minus-length (b ∷ bs) h = omega arith

-- the test of the code, most = 2^64 - 1
pub step_fits : (base x d most : ℕ) → 0 < base → x ≤ (most - d) / base → x * base ≤ most - d
step_fits base x d most b l = (le-div_iff_mul-le {k = base} {x = x} {y = most - d} b).0 l

pub step-passes : (base x d most : ℕ) → 0 < base → (most - d) / base < x → most - d < x * base
step-passes base x d most b l = (div-lt_iff_lt-mul {k = base} {x = most - d} {y = x} b).0 l

-- a digit put before those that stand
pub digit-put : (out : List ℕ) (i k n : ℕ) → i < length out → drop (i + 1) out ≡ hex_digits k n → drop i (set out i (glyph_of (n / 16 ^ k % 16))) ≡ hex_digits (suc k) n
unfolding hex_digits
digit-put out i k n h e =
    let g = glyph_of (n / 16 ^ k % 16) in
    from-here i (set out i g) (lt-length-set out i g h)
    ∙ ap (λ (x : ℕ). x ∷ drop (i + 1) (set out i g)) (get_or-set_same out i g 0 h)
    ∙ ap (λ (r : List ℕ). g ∷ r) (drop-set-lt (i + 1) out i g (omega arith) ∙ e)

pub digit-less : (n k : ℕ) → n / 16 ^ k / 16 ≡ n / 16 ^ suc k
digit-less n k = div-div-eq-div-mul n (16 ^ k) 16 ∙ ap (λ (m : ℕ). n / m) (sym (pow-suc 16 k))
