-- A total modulo 2^64 beside a number that no count is above. Assumes nothing.
use Rattle.std.proofs.Common.{◌≡◌, ℕ, ◌+◌, ◌*◌, ◌%◌, ◌<◌, ◌≤◌, eqb, List, take, ap, mul-le-mul, mul-le-mul_left, arith}
use lib.Bits.{bit_or, or_add_and, and_le_l, and_le_r}
use Rattle.laws.specs.Counting.{total}
use Rattle.exponential.specs.declared.Counts.{Counts}
use Rattle.exponential.specs.Inner.{adds_up}

pub or_left : (a b : ℕ) → a ≤ bit_or a b
or_left a b = omega (arith, or_add_and a b, and_le_r a b)

pub or_right : (a b : ℕ) → b ≤ bit_or a b
or_right a b = omega (arith, or_add_and a b, and_le_l a b)

pub wraps-start : (s : ℕ) → s < 18446744073709551616 → s ≡ (s + 0) % 18446744073709551616
wraps-start s h = omega arith

-- one count more
pub wraps-next : (s f t t' x s' : ℕ) → s ≡ (f + t) % 18446744073709551616 → t' ≡ t + x → s' ≡ (s + x) % 18446744073709551616 → s' ≡ (f + t') % 18446744073709551616
wraps-next s f t t' x s' p q r = omega arith

next-most : (i t t' x m a b : ℕ) → t ≤ a → a ≤ b → x ≤ m → t' ≡ t + x → b + m ≡ (i + 1) * m → t' ≤ (i + 1) * m
next-most i t t' x m a b h g l e q = omega arith

pub most-next : (i t t' x m : ℕ) → t ≤ i * m → t' ≡ t + x → t' ≤ (i + 1) * bit_or m x
most-next i t t' x m h e =
    next-most i t t' x (bit_or m x) (i * m) (i * bit_or m x) h (mul-le-mul_left i (or_left m x)) (or_right m x) e (step i (bit_or m x))
  where
    step : (i m : ℕ) → i * m + m ≡ (i + 1) * m
    step i m = omega arith

-- ---- below 2^55 nothing has wrapped

exact : (z t u s₁ s₂ b : ℕ) → s₁ ≡ (z + t) % 18446744073709551616 → s₂ ≡ (s₁ + u) % 18446744073709551616
    → z ≤ b → t ≤ 160 * b → u ≤ 160 * b → b < 36028797018963968 → s₂ ≡ z + (t + u)
exact z t u s₁ s₂ b p q a h g l = omega arith

most : (t n m b : ℕ) → t ≤ n * m → n ≤ 160 → m ≤ b → t ≤ 160 * b
most t n m b h g l = omega (arith, mul-le-mul {n₁ = n} {m₁ = m} {n₂ = 160} {m₂ = b} g l)

pub sums-exact : (z t u s₁ s₂ m b p n : ℕ) → s₁ ≡ (z + t) % 18446744073709551616 → s₂ ≡ (s₁ + u) % 18446744073709551616
    → z ≤ m → t ≤ p * m → p ≤ 160 → m ≤ b → u ≤ n * b → n ≤ 160 → b < 36028797018963968 → s₂ ≡ z + (t + u)
sums-exact z t u s₁ s₂ m b p n e₁ e₂ a h g l k q w =
    exact z t u s₁ s₂ b e₁ e₂ (omega arith) (most t p m b h g l) (most u n b b k q (omega arith)) w

pub adds-up_if : (c : Counts) (xs ys : List ℕ) (s : ℕ) → s ≡ c.zeros + (total (take c.pos.len xs) + total (take c.neg.len ys))
    → eqb c.count s ≡ adds_up c xs ys
adds-up_if c xs ys s e = ap (eqb c.count) e
