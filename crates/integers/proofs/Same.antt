-- A finite f64 is its sign and its magnitude. Assumes nothing.
use Rattle.std.proofs.Common.{◌≡◌, ℕ, ◌+◌, ◌-◌, ◌*◌, ◌/◌, ◌^◌, Bool, cond, ℤ, sym, ap, ◌∙◌, mul_assoc, pow_pos, pow-add}
use native.Mathlib.Nat.{div-div-eq-div-mul, mul-div-mul_right}
use lib.Ieee.{Float, nan, inf, fin, binary64, up, down, size, to_bits, of_bits}
use lib.Ieee.Bits.{of_bits-to_bits}
use Rattle.index.specs.Magnitude.{magnitude, is_negative}
use Rattle.floats.specs.Starts.{FiniteF64}

-- the magnitude in units of 2 ^ -1074
coarser : (s : Bool) (m : ℕ) (e : ℤ) → m * up e * 2 ^ 1074 / down e ≡ magnitude (fin s m e) / 2 ^ 974
unfolding magnitude
coarser s m e =
    sym (mul-div-mul_right (m * up e * 2 ^ 1074) (down e) (pow_pos 974))
    ∙ ap (λ (a : ℕ). a / (down e * 2 ^ 974)) (mul_assoc (m * up e) (2 ^ 1074) (2 ^ 974) ∙ ap (λ (u : ℕ). m * up e * u) (sym (pow-add 2 1074 974)))
    ∙ sym (div-div-eq-div-mul (m * up e * 2 ^ 2048) (down e) (2 ^ 974))

-- the bit pattern of a sign and a magnitude in those units
abbrev bits : Bool → ℕ → ℕ
bits s n = cond s (2 ^ 63) 0 + (size n - 53) * 2 ^ 52 + n / 2 ^ (size n - 53)

bits_are : (x : Float) → FiniteF64 x → to_bits binary64 x ≡ bits (is_negative x) (magnitude x / 2 ^ 974)
unfolding to_bits
bits_are nan v = absurd v.known
bits_are (inf s) v = absurd v.known
bits_are (fin s m e) v = ap (bits s) (coarser s m e)

pub same-f64 : (x y : Float) → FiniteF64 x → FiniteF64 y → is_negative x ≡ is_negative y → magnitude x ≡ magnitude y → x ≡ y
same-f64 x y v w s m =
    sym (of_bits-to_bits binary64 x v.fits)
    ∙ ap (of_bits binary64)
    (bits_are x v
    ∙ ap (λ (b : Bool). bits b (magnitude x / 2 ^ 974)) s
    ∙ ap (λ (a : ℕ). bits (is_negative y) (a / 2 ^ 974)) m
    ∙ sym (bits_are y w))
    ∙ of_bits-to_bits binary64 y w.fits
