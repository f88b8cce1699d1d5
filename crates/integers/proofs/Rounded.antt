-- What rounding a whole number to f64 keeps: a multiple of a power of two that is the closest to it. Assumes nothing.
use Rattle.std.proofs.Common.{◌≡◌, ℕ, ◌+◌, ◌-◌, ◌*◌, ◌/◌, ◌%◌, ◌^◌, ◌<◌, ◌≤◌, Bool, ◌⊎◌, sym, ap, ◌∙◌, subst, inl, inr, le_trans, le_of_eq, lt_of_lt_of_le, lt_of_le_of_lt, mul-le-mul_right, zero-lt-suc, mul_assoc, mul_comm, mul-lt-mul_of_pos_right, one-mul, le-div_iff_mul-le, mul-one, div-one, arith, lit<, lit≤, pow_pos, pow_mono, pow-add}
use Prim.Native.Nat.{compare}
use lib.Ieee.{Float, binary64, size, round}
use lib.Ieee.Digits.{size_reaches}
use lib.Ieee.Fits.{round_is, nearest-le, kept-lt}
use lib.Ieee.Exact.{HasValue, units_val}
use lib.Ieee.Nearest.{closest, closest_same, nearest-ge}
use Rattle.laws.proofs.Differences.{le_or-lt}
use Rattle.laws.proofs.Powers.{pow_lt_back}
use Rattle.integers.proofs.Closest.{apart, close}

-- n, rounded with the sign s: q * 2 ^ k units of 2 ^ -1074, q being the closest to n in units of 2 ^ k of them. Either nothing is dropped
-- and q is n, or q has 53 digits or is 2 ^ 53
pub record Kept (s : Bool) (n : ℕ) (x : Float) : Type 0 where
  pub q : ℕ
  pub k : ℕ
  pub value : HasValue x s (q * 2 ^ k) (2 ^ 1074)
  pub is : q ≡ closest (n * 2 ^ 2048) (2 ^ (k + 974))
  pub kept : (q * 2 ^ k ≡ n * 2 ^ 1074) ⊎ ((2 ^ (52 + k) ≤ n * 2 ^ 1074) × (2 ^ 52 ≤ q) × (q ≤ 2 ^ 53))

-- the only multiple of 1 that is no further than N from N
whole : (N u : ℕ) → u ≡ 1 → closest N u * u ≡ N
whole N u e = subst (λ (v : ℕ). closest N v * v ≡ N) (sym e) (none (closest N 1 * 1) (N * 1) (mul-one N) (close N 1 N (zero-lt-suc 0)).least)
  where
    none : (Q P : ℕ) → P ≡ N → apart Q N ≤ apart P N → Q ≡ N
    none Q P e h = omega arith

module _ (n k : ℕ) where
  -- both in units of 2 ^ -2048
  wider : closest (n * 2 ^ 1074) (1 * 2 ^ k) ≡ closest (n * 2 ^ 2048) (2 ^ (k + 974))
  wider =
      closest_same (n * 2 ^ 1074) (1 * 2 ^ k) (n * 2 ^ 2048) (2 ^ (k + 974)) (subst (λ (u : ℕ). 0 < u) (sym (one-mul (2 ^ k))) (pow_pos k)) (pow_pos (k + 974))
      (ap (λ (u : ℕ). n * 2 ^ 1074 * u) (pow-add 2 k 974)
      ∙ scaled n (2 ^ 1074) (2 ^ k) (2 ^ 974)
      ∙ ap (λ (u : ℕ). n * u * (1 * 2 ^ k)) (sym (pow-add 2 1074 974)))
    where
      scaled : (n a b c : ℕ) → n * a * (b * c) ≡ n * (a * c) * (1 * b)
      scaled n a b c =
          mul_assoc n a (b * c)
          ∙ ap (λ (x : ℕ). n * x) (ap (λ (x : ℕ). a * x) (mul_comm b c) ∙ sym (mul_assoc a c b))
          ∙ sym (mul_assoc n (a * c) b)
          ∙ ap (λ (x : ℕ). n * (a * c) * x) (sym (one-mul b))

module _ (n : ℕ) (small : n < 2 ^ 64) where
  abbrev N : ℕ
  N = n * 2 ^ 1074

  abbrev k : ℕ
  k = size (N / 1) - 53

  abbrev q : ℕ
  q = closest N (1 * 2 ^ k)

  below : N < 2 ^ 1138
  below = lt_of_lt_of_le (mul-lt-mul_of_pos_right small (pow_pos 1074)) (le_of_eq (sym (pow-add 2 64 1074)))

  exact : size (N / 1) ≤ 53 → q * 2 ^ k ≡ N
  exact h = go (size (N / 1) - 53) (none (size (N / 1)) h)
    where
      none : (z : ℕ) → z ≤ 53 → z - 53 ≡ 0
      none z h = omega arith

      go : (j : ℕ) → j ≡ 0 → closest N (1 * 2 ^ j) * 2 ^ j ≡ N
      go j e =
          ap (λ (u : ℕ). closest N (1 * 2 ^ j) * u) (sym (one-mul (2 ^ j)))
          ∙ whole N (1 * 2 ^ j) (one-mul (2 ^ j) ∙ ap (λ (i : ℕ). 2 ^ i) e)

  long : 53 < size (N / 1) → 2 ^ (52 + k) ≤ N
  long h = subst (λ (m : ℕ). 2 ^ (52 + k) ≤ m) (div-one N) (size_reaches (N / 1) (52 + k) (last (size (N / 1)) h))
    where
      last : (z : ℕ) → 53 < z → 52 + (z - 53) < z
      last z h = omega arith

  -- the quotient has at most 53 digits
  quotient : N / (1 * 2 ^ k) < 2 ^ 53
  quotient = subst (λ (u : ℕ). N / u < 2 ^ 53) (sym (one-mul (2 ^ k))) (subst (λ (m : ℕ). m / 2 ^ k < 2 ^ 53) (div-one N) (kept-lt 53 (N / 1)))

  most : q ≤ 2 ^ 53
  most = le_trans (nearest-le (N / (1 * 2 ^ k)) (compare (N % (1 * 2 ^ k) * 2) (1 * 2 ^ k))) quotient

  least : 2 ^ (52 + k) ≤ N → 2 ^ 52 ≤ q
  least h =
      le_trans
      ((le-div_iff_mul-le (subst (λ (u : ℕ). 0 < u) (sym (one-mul (2 ^ k))) (pow_pos k))).1
      (le_trans (le_of_eq (ap (λ (u : ℕ). 2 ^ 52 * u) (one-mul (2 ^ k)) ∙ sym (pow-add 2 52 k))) h))
      (nearest-ge (N / (1 * 2 ^ k)) (compare (N % (1 * 2 ^ k) * 2) (1 * 2 ^ k)))

  under : (q * 2 ^ k ≡ N) ⊎ (2 ^ (52 + k) ≤ N) → q * 2 ^ k < 2 ^ 2098
  under s =
      elim s [
        | inl e ↦ lt_of_le_of_lt (le_of_eq e) (lt_of_lt_of_le below (lit≤ tt))
        | inr h ↦
            lt_of_le_of_lt (mul-le-mul_right (2 ^ k) most)
            (lt_of_le_of_lt (le_of_eq (sym (pow-add 2 53 k)))
            (lt_of_le_of_lt (pow_mono (next k (pow_lt_back (52 + k) 1138 (lt_of_le_of_lt h below)))) (lit< tt)))
      ]
    where
      next : (k : ℕ) → 52 + k < 1138 → 53 + k ≤ 1138
      next k h = omega (arith, h)

  cases : (q * 2 ^ k ≡ N) ⊎ (2 ^ (52 + k) ≤ N)
  cases = elim (le_or-lt (size (N / 1)) 53) [ inl h ↦ inl (exact h) | inr h ↦ inr (long h) ]

  pub rounded : (s : Bool) → Kept s n (round binary64 s n 1)
  rounded s = record {
    q = q;
    k = k;
    value = subst (λ (x : Float). HasValue x s (q * 2 ^ k) (2 ^ 1074)) (sym (round_is binary64 s n 1)) (units_val binary64 s q k (under cases));
    is = wider n k;
    kept = elim cases [ inl e ↦ inl e | inr h ↦ inr (h, least h, most) ];
  }
