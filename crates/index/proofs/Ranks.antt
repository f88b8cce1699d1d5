-- The rank of a mantissa among the bounds, and the finest bin from it. Assumes nothing.
use mathlib.Core.Path.{◌≡◌, sym, ap, ◌∙◌, subst}
use Prim.Native.Nat.{ℕ, suc, ◌+◌, ◌-◌, ◌*◌, ◌^◌, ◌≤◌, ◌<◌}
use native.Mathlib.Nat.{pow-le-pow_left, lt_of_lt_of_le, lt_of_le_of_lt, le_trans, le_of_eq, le_of_lt, mul-lt-mul_of_pos_right, mul-le-mul_right}
use native.Mathlib.Omega.{arith}
use lib.Dec.{lit<}
use lib.Pow.{pow-add, pow_pos}
use Rattle.laws.proofs.Powers.{mul_pow, pow_mul}
use Rattle.bounds.specs.Bounds.{BoundAt}
use Rattle.index.specs.Ranked.{Ranked}
use Rattle.index.specs.Bins.{finest_bin}
use Rattle.index.proofs.Buckets.{Between}
use Rattle.index.proofs.Finest.{finest-is}

-- no mantissa is below all bounds, and none is above the next power of two
pub ranked-first : (m : ℕ) → 2 ^ 52 ≤ m → 2 ^ (0 + 53247) < m ^ 1024
ranked-first m h = lt_of_lt_of_le below (pow-le-pow_left h 1024)
  where
    below : 2 ^ (0 + 53247) < (2 ^ 52) ^ 1024
    below = lit< tt

pub ranked-last : (m : ℕ) → m < 2 ^ 53 → m ^ 1024 ≤ 2 ^ (1024 + 53248)
ranked-last m h = le_trans (pow-le-pow_left (le_of_lt h) 1024) (le_of_eq (pow_mul 2 53 1024))

-- a bound that is below m, and one that is not
pub ranked-up : (m k b : ℕ) → BoundAt k b → b < m → 2 ^ (k + 1 + 53247) < m ^ 1024
ranked-up m k b i h = lt_of_lt_of_le (subst (λ (j : ℕ). 2 ^ j < suc b ^ 1024) (next k) i.next) (pow-le-pow_left h 1024)
  where
    next : (k : ℕ) → k + 53248 ≡ k + 1 + 53247
    next k = omega arith

pub ranked-down : (m k b : ℕ) → BoundAt k b → m ≤ b → m ^ 1024 ≤ 2 ^ (k + 53248)
ranked-down m k b i h = le_trans (pow-le-pow_left h 1024) i.reaches

-- the finest bin of m * 2 ^ e, from the rank of m
raised : (m e : ℕ) → (m * 2 ^ e) ^ 1024 ≡ m ^ 1024 * 2 ^ (e * 1024)
raised m e = mul_pow m (2 ^ e) 1024 ∙ ap (λ (k : ℕ). m ^ 1024 * k) (pow_mul 2 e 1024)

pub bucket : (m e r : ℕ) → Ranked m r → Between 10 0 (m * 2 ^ e) ((e + 52) * 1024 + r - 1)
bucket m e r i =
    record {
      above = lt_of_le_of_lt (le_of_eq (ap (λ (k : ℕ). 2 ^ k) (low e r) ∙ pow-add 2 (r + 53247) (e * 1024))) (lt_of_lt_of_le (mul-lt-mul_of_pos_right i.above (pow_pos (e * 1024))) (le_of_eq (sym (raised m e))));
      within = le_trans (le_of_eq (raised m e)) (le_trans (mul-le-mul_right (2 ^ (e * 1024)) i.within) (le_of_eq (sym (ap (λ (k : ℕ). 2 ^ k) (high e r) ∙ pow-add 2 (r + 53248) (e * 1024)))));
    }
  where
    low : (e r : ℕ) → ((e + 52) * 1024 + r - 1) * 1 ≡ r + 53247 + e * 1024
    low e r = omega arith

    high : (e r : ℕ) → ((e + 52) * 1024 + r - 1 + 1) * 1 ≡ r + 53248 + e * 1024
    high e r = omega arith

pub finest-from : (m e r : ℕ) → e ≤ 3019 → Ranked m r → finest_bin (m * 2 ^ e) ≡ (e + 52) * 1024 + r - 1
finest-from m e r h i = finest-is (m * 2 ^ e) ((e + 52) * 1024 + r - 1) (omega (arith, h, i.small)) (bucket m e r i)
