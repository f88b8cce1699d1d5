-- The bucket of a magnitude over whole numbers, by its bin: coarser buckets, order, and that there is only one. Assumes nothing.
use mathlib.Core.Path.{◌≡◌, sym, ap, ◌∙◌, subst}
use Prim.Native.Nat.{ℕ, zero, suc, ◌+◌, ◌-◌, ◌*◌, ◌/◌, ◌%◌, ◌^◌, ◌≤◌, ◌<◌, min}
use native.Mathlib.Nat.{zero-add, le_antisymm, mul-add, add-mul, one-mul, div-mul-le_self, div-add-mod', mod-lt, lt_of_mul-lt-mul_right, two-pow-succ, pow-le-pow_left, mul_assoc, mul_comm, add-zero, add-suc, lt_of_lt_of_le, lt_of_le_of_lt, le_trans, le_of_eq, le_refl, mul-le-mul_right}
use native.Mathlib.Omega.{arith}
use lib.Pow.{pow-add, pow_pos, pow_mono}
use Rattle.laws.proofs.Powers.{pow_lt_back, square-lt, square_le}

-- the magnitude w lies in the bin b at the scale u - t, where u or t is 0
pub record Between (u t w b : ℕ) : Type 0 where
  pub above : 2 ^ (b * 2 ^ t) < w ^ (2 ^ u)
  pub within : w ^ (2 ^ u) ≤ 2 ^ ((b + 1) * 2 ^ t)

doubled : (w s : ℕ) → w ^ (2 ^ suc s) ≡ w ^ (2 ^ s) * w ^ (2 ^ s)
doubled w s = ap (λ (k : ℕ). w ^ k) (two-pow-succ s) ∙ pow-add w (2 ^ s) (2 ^ s)

twice : (a t : ℕ) → 2 ^ (a * 2 ^ suc t) ≡ 2 ^ (a * 2 ^ t) * 2 ^ (a * 2 ^ t)
twice a t = ap (λ (k : ℕ). 2 ^ (a * k)) (two-pow-succ t) ∙ ap (λ (k : ℕ). 2 ^ k) (mul-add a (2 ^ t) (2 ^ t)) ∙ pow-add 2 (a * 2 ^ t) (a * 2 ^ t)

-- ---- the definition at (u + k, t + k) is that at (u, t), raised to the power 2 ^ k

rooted : (u t w b : ℕ) → Between (suc u) (suc t) w b → Between u t w b
rooted u t w b i =
    record {
      above = square-lt (lt_of_le_of_lt (le_of_eq (sym (twice b t))) (lt_of_lt_of_le i.above (le_of_eq (doubled w u))));
      within = square_le (le_trans (le_of_eq (sym (doubled w u))) (le_trans i.within (le_of_eq (twice (b + 1) t))));
    }

pub roots : (k u t w b : ℕ) → Between (u + k) (t + k) w b → Between u t w b
roots zero u t w b i = subst (λ (n : ℕ). Between n t w b) (add-zero u) (subst (λ (n : ℕ). Between (u + 0) n w b) (add-zero t) i)
roots (suc k) u t w b i =
    roots k u t w b (rooted (u + k) (t + k) w b
    (subst (λ (n : ℕ). Between n (suc (t + k)) w b) (add-suc u k) (subst (λ (n : ℕ). Between (u + suc k) n w b) (add-suc t k) i)))

-- ---- a scale coarser by k divides the index by 2 ^ k

divided : (k u t w b : ℕ) → Between u t w b → Between u (t + k) w (b / 2 ^ k)
divided k u t w b i =
    let q = b / 2 ^ k in
    record {
      above = lt_of_le_of_lt (pow_mono (le_trans (le_of_eq (moved q)) (mul-le-mul_right (2 ^ t) (div-mul-le_self b (2 ^ k))))) i.above;
      within = le_trans i.within (pow_mono (le_trans (mul-le-mul_right (2 ^ t) (next q (b % 2 ^ k) (2 ^ k) b (div-add-mod' b (2 ^ k)) (mod-lt b (pow_pos k)))) (le_of_eq (sym (moved (q + 1))))));
    }
  where
    moved : (a : ℕ) → a * 2 ^ (t + k) ≡ a * 2 ^ k * 2 ^ t
    moved a = ap (λ (n : ℕ). a * n) (pow-add 2 t k ∙ mul_comm (2 ^ t) (2 ^ k)) ∙ sym (mul_assoc a (2 ^ k) (2 ^ t))

    sum : (s r p b : ℕ) → s + r ≡ b → r < p → b + 1 ≤ s + p
    sum s r p b e h = omega arith

    next : (q r p b : ℕ) → q * p + r ≡ b → r < p → b + 1 ≤ (q + 1) * p
    next q r p b e h = le_trans (sum (q * p) r p b e h) (le_of_eq (sym (add-mul q 1 p ∙ ap (λ (n : ℕ). q * p + n) (one-mul p))))

-- from the scale 10 - d to the scale 10 - (d + k)
pub coarser : (d k w b : ℕ) → Between (10 - d) (d - 10) w b → Between (10 - (d + k)) (d + k - 10) w (b / 2 ^ k)
coarser d k w b i =
    let n = min (10 - d) k in
    roots n (10 - (d + k)) (d + k - 10) w (b / 2 ^ k)
    (subst (λ (u : ℕ). Between u (d + k - 10 + n) w (b / 2 ^ k)) (high d k)
    (subst (λ (t : ℕ). Between (10 - d) t w (b / 2 ^ k)) (low d k) (divided k (10 - d) (d - 10) w b i)))
  where
    high : (d k : ℕ) → 10 - d ≡ 10 - (d + k) + min (10 - d) k
    high d k = omega arith

    low : (d k : ℕ) → d - 10 + k ≡ d + k - 10 + min (10 - d) k
    low d k = omega arith

pub from_10 : (d w b : ℕ) → Between 10 0 w b → Between (10 - d) (d - 10) w (b / 2 ^ d)
from_10 d w b i = subst (λ (n : ℕ). Between (10 - n) (n - 10) w (b / 2 ^ d)) (zero-add d) (coarser 0 d w b i)

-- a larger size has no smaller index, and a size has one index
pub ordered : (u t v w a b : ℕ) → v ≤ w → Between u t v a → Between u t w b → a ≤ b
ordered u t v w a b h i j =
    down (lt_of_mul-lt-mul_right (2 ^ t) (pow_lt_back (a * 2 ^ t) ((b + 1) * 2 ^ t) (lt_of_lt_of_le i.above (le_trans (pow-le-pow_left h (2 ^ u)) j.within))))
  where
    down : a < b + 1 → a ≤ b
    down h = omega arith

pub only : (u t w a b : ℕ) → Between u t w a → Between u t w b → a ≡ b
only u t w a b i j = le_antisymm (ordered u t w w a b (le_refl w) i j) (ordered u t w w b a (le_refl w) j i)
