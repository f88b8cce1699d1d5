-- The magnitude of the f64 nearest to a whole number: only 0 gives a zero, and below 2 ^ 53 nothing is rounded. Assumes nothing.
use Rattle.std.proofs.Common.{◌≡◌, ℕ, zero, suc, ◌+◌, ◌*◌, ◌/◌, ◌^◌, ◌<◌, Bool, true, false, ℤ, pos, negsuc, nat_abs, sym, refl, ap, ◌∙◌, subst, inl, inr, lt_of_lt_of_le, lt_of_le_of_lt, zero-lt-suc, add_comm, mul-pos, mul-one, mul_right_comm, mul-div_cancel, arith, lit<, lit≤, pow_pos, pow_mono, shl_lt}
use lib.Signed.{mag}
use lib.Ieee.{Float, nan, inf, fin, binary64, up, down, round, of_int}
use lib.Ieee.Fits.{down_pos}
use lib.Ieee.Exact.{HasValue, round_exact}
use Rattle.index.specs.Magnitude.{magnitude}
use Rattle.index.proofs.Floats.{in_units_lem}
use Rattle.integers.specs.Answers.{nearest_of}
use Rattle.integers.proofs.Rounded.{Kept, rounded}

size_of : (s : Bool) (n : ℕ) (x : Float) (c : Kept s n x) → magnitude x ≡ c.q * 2 ^ c.k * 2 ^ 974
size_of s n x c = (in_units_lem x s (c.q * 2 ^ c.k) c.value).size

-- ---- ONLY 0 GIVES A ZERO
some : (a b c : ℕ) → 0 < a → 0 < b → 0 < c → a * b * c ≡ 0 → ⊥
some a b c p q r e = none (a * b * c) (mul-pos (mul-pos p q) r) e
  where
    none : (m : ℕ) → 0 < m → m ≡ 0 → ⊥
    none m h k = omega (arith, h, k)

not-zero : (s : Bool) (n : ℕ) (x : Float) → 0 < n → Kept s n x → magnitude x ≡ 0 → ⊥
not-zero s n x p c e =
    elim c.kept [
      | inl h ↦ two (c.q * 2 ^ c.k) (subst (λ (m : ℕ). 0 < m) (sym h) (mul-pos p (pow_pos 1074))) (sym (size_of s n x c) ∙ e)
      | inr h ↦ some c.q (2 ^ c.k) (2 ^ 974) (lt_of_lt_of_le (lit< tt) h.1) (pow_pos c.k) (pow_pos 974) (sym (size_of s n x c) ∙ e)
    ]
  where
    none : (m : ℕ) → 0 < m → m ≡ 0 → ⊥
    none m h k = omega (arith, h, k)

    two : (a : ℕ) → 0 < a → a * 2 ^ 974 ≡ 0 → ⊥
    two a h k = none (a * 2 ^ 974) (mul-pos h (pow_pos 974)) k

pub near-zero : (z : ℤ) → mag z < 2 ^ 63 → magnitude (nearest_of z) ≡ 0 → z ≡ pos 0
unfolding of_int
near-zero (pos zero) h e = refl
near-zero (pos (suc n)) h e =
    absurd (not-zero false (suc n) (round binary64 false (suc n) 1) (zero-lt-suc n) (rounded (suc n) (lt_of_lt_of_le h (lit≤ tt)) false) e)
near-zero (negsuc n) h e =
    absurd (not-zero true (suc n) (round binary64 true (suc n) 1) (zero-lt-suc n) (rounded (suc n) (lt_of_le_of_lt h (lit< tt)) true) e)

-- ---- BELOW 2 ^ 53 NOTHING IS ROUNDED: the magnitude, in units of 2 ^ -2048, is the number's
whole-size : (x : Float) (s : Bool) (n : ℕ) → HasValue x s n 1 → magnitude x ≡ n * 2 ^ 2048
unfolding magnitude
whole-size nan s n h = absurd h
whole-size (inf t) s n h = absurd h
whole-size (fin t m e) s n h =
    ap (λ (a : ℕ). a * 2 ^ 2048 / down e) (sym (mul-one (m * up e)) ∙ h.1)
    ∙ ap (λ (a : ℕ). a / down e) (mul_right_comm n (down e) (2 ^ 2048))
    ∙ mul-div_cancel (n * 2 ^ 2048) (down_pos e)

small-value : (s : Bool) (n : ℕ) → n < 2 ^ 53 → HasValue (round binary64 s n 1) s n 1
small-value s n h =
    round_exact binary64 s n 1 n 1074 (zero-lt-suc 0) h
    (subst (λ (k : ℕ). n * 2 ^ 1074 < 2 ^ k) (add_comm 1024 1074) (lt_of_lt_of_le (shl_lt 53 1074 h) (pow_mono {i = 53 + 1074} {j = 1024 + 1074} (lit≤ tt))))
    (sym (mul-one (n * 2 ^ 1074)))

pub near-exact : (z : ℤ) → nat_abs z < 2 ^ 53 → magnitude (nearest_of z) ≡ nat_abs z * 2 ^ 2048
unfolding of_int
near-exact (pos n) h = whole-size (round binary64 false n 1) false n (small-value false n h)
near-exact (negsuc n) h = whole-size (round binary64 true (suc n) 1) true (suc n) (small-value true (suc n) h)
