-- The bin at scale 0, from the exponent alone. Assumes nothing.
use mathlib.Core.Path.{◌≡◌, sym, ap, ◌∙◌, subst}
use Prim.Native.Nat.{ℕ, ◌+◌, ◌*◌, ◌^◌, ◌≤◌, ◌<◌}
use native.Mathlib.Nat.{lt_of_lt_of_le, lt_of_le_of_lt, le_trans, le_of_eq, le_of_lt, mul-le-mul, mul-le-mul_right, mul-lt-mul_of_pos_right, mul_comm, mul-one, one-mul, pow-zero, pow-suc}
use native.Mathlib.Omega.{arith}
use lib.Dec.{lit<, lit≤}
use lib.Pow.{pow-add, pow_pos, pow_mono, pow-lt}
use Rattle.index.specs.Bins.{bin_at}
use Rattle.index.proofs.Buckets.{Between}
use Rattle.index.proofs.Finest.{Held}
use Rattle.index.proofs.Indices.{bin-from}

held : (m e : ℕ) → 2 ^ 52 ≤ m → m < 2 ^ 53 → e ≤ 3019 → Held (m * 2 ^ e)
held m e l h g =
    record {
      least = lt_of_lt_of_le (lit< tt) (mul-le-mul l (pow_pos e));
      most = le_trans (mul-le-mul (le_of_lt h) (pow_mono g)) (le_of_eq (sym (pow-add 2 53 3019)));
    }

pow-one : (w : ℕ) → w ^ 1 ≡ w
pow-one w = pow-suc w 0 ∙ ap (λ (k : ℕ). k * w) (pow-zero w) ∙ one-mul w

power : (e : ℕ) → 2 ^ 52 * 2 ^ e ≡ 2 ^ (e + 52)
power e = mul_comm (2 ^ 52) (2 ^ e) ∙ sym (pow-add 2 e 52)

-- 2 ^ b < w <= 2 ^ (b + 1) as the bucket at scale 0
plain : (w b : ℕ) → 2 ^ b < w → w ≤ 2 ^ (b + 1) → Between 0 0 w b
plain w b h g =
    record {
      above = lt_of_lt_of_le (subst (λ (n : ℕ). 2 ^ n < w) (sym (mul-one b)) h) (le_of_eq (sym (pow-one w)));
      within = le_trans (le_of_eq (pow-one w)) (subst (λ (n : ℕ). w ≤ 2 ^ n) (sym (mul-one (b + 1))) g);
    }

pub whole-power : (e : ℕ) → e ≤ 3019 → bin_at 10 (2 ^ 52 * 2 ^ e) ≡ e + 51
whole-power e h =
    bin-from 10 (2 ^ 52 * 2 ^ e) (e + 51) (lit≤ tt) (held (2 ^ 52) e (lit≤ tt) (lit< tt) h)
    (plain (2 ^ 52 * 2 ^ e) (e + 51) (lt_of_lt_of_le (pow-lt (less e)) (le_of_eq (sym (power e)))) (le_of_eq (power e ∙ ap (λ (n : ℕ). 2 ^ n) (same e))))
  where
    less : (e : ℕ) → e + 51 < e + 52
    less e = omega arith

    same : (e : ℕ) → e + 52 ≡ e + 51 + 1
    same e = omega arith

pub whole-other : (m e : ℕ) → 2 ^ 52 < m → m < 2 ^ 53 → e ≤ 3019 → bin_at 10 (m * 2 ^ e) ≡ e + 52
whole-other m e l h g =
    bin-from 10 (m * 2 ^ e) (e + 52) (lit≤ tt) (held m e (le_of_lt l) h g)
    (plain (m * 2 ^ e) (e + 52) (lt_of_le_of_lt (le_of_eq (sym (power e))) (mul-lt-mul_of_pos_right l (pow_pos e)))
    (le_trans (mul-le-mul_right (2 ^ e) (le_of_lt h)) (le_of_eq (mul_comm (2 ^ 53) (2 ^ e) ∙ sym (pow-add 2 e 53) ∙ ap (λ (n : ℕ). 2 ^ n) (same e)))))
  where
    same : (e : ℕ) → e + 53 ≡ e + 52 + 1
    same e = omega arith
