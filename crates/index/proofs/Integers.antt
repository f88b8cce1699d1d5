-- The Data Model's relation for the signed index: from that for the bin, only one index, and coarser by a shift. Assumes nothing.
use mathlib.Core.Path.{◌≡◌, sym, ap, ◌∙◌, subst}
use mathlib.Core.Logic.{inl, inr}
use Prim.Native.Nat.{ℕ, suc, ◌+◌, ◌*◌, ◌/◌, ◌%◌, ◌^◌, ◌≤◌, ◌<◌}
use native.Mathlib.Nat.{mul_comm, mul_right_comm, add-mul, lt_of_mul-lt-mul_right, le_of_mul-le-mul_right, mul-lt-mul_of_pos_right, mul-le-mul_right, lt_of_lt_of_le, lt_of_le_of_lt, le_trans, le_of_eq, le_antisymm, div-mul-le_self, one-mul, div-add-mod', mod-lt}
use native.Mathlib.Omega.{arith}
use lib.IntN.{ℤ, pos, ◌-ℤ◌, ◌*ℤ◌}
use lib.Signed.{shr_z}
use lib.Pow.{pow-add, pow_pos, pow_mono}
use Rattle.laws.proofs.Powers.{pow_mul, pow_lt_back}
use Rattle.laws.proofs.Differences.{difference, times-sub, suc-sub, same-sub, as-sub, shift-sub}
use Rattle.index.specs.DataModel.{Above, Within, InBucket}
use Rattle.index.proofs.Buckets.{Between}

-- ---- 2 ^ (x - y) against a / b, without a difference

more_left : (d x y b : ℕ) → x ≡ d + y → 2 ^ x * b ≡ 2 ^ d * b * 2 ^ y
more_left d x y b e = ap (λ (k : ℕ). 2 ^ k * b) e ∙ ap (λ (k : ℕ). k * b) (pow-add 2 d y) ∙ mul_right_comm (2 ^ d) (2 ^ y) b

module _ (x y a b : ℕ) where
  pub above-sub : 2 ^ x * b < 2 ^ y * a → Above (pos x -ℤ pos y) a b
  above-sub h =
      elim (difference x y) [
        | inl r ↦ subst (λ (z : ℤ). Above z a b) (sym r.2) (lt_of_mul-lt-mul_right (2 ^ y) (lt_of_le_of_lt (le_of_eq (sym (more_left r.0 x y b r.1))) (lt_of_lt_of_le h (le_of_eq (mul_comm (2 ^ y) a)))))
        | inr r ↦ subst (λ (z : ℤ). Above z a b) (sym r.2) (lt_of_mul-lt-mul_right (2 ^ x) (lt_of_le_of_lt (le_of_eq (mul_comm b (2 ^ x))) (lt_of_lt_of_le h (le_of_eq (more_left (suc r.0) y x a r.1)))))
      ]

  pub above-back : Above (pos x -ℤ pos y) a b → 2 ^ x * b < 2 ^ y * a
  above-back h =
      elim (difference x y) [
        | inl r ↦ lt_of_le_of_lt (le_of_eq (more_left r.0 x y b r.1)) (lt_of_lt_of_le (mul-lt-mul_of_pos_right (subst (λ (z : ℤ). Above z a b) r.2 h) (pow_pos y)) (le_of_eq (mul_comm a (2 ^ y))))
        | inr r ↦ lt_of_le_of_lt (le_of_eq (mul_comm (2 ^ x) b)) (lt_of_lt_of_le (mul-lt-mul_of_pos_right (subst (λ (z : ℤ). Above z a b) r.2 h) (pow_pos x)) (le_of_eq (sym (more_left (suc r.0) y x a r.1))))
      ]

  pub within-sub : 2 ^ y * a ≤ 2 ^ x * b → Within (pos x -ℤ pos y) a b
  within-sub h =
      elim (difference x y) [
        | inl r ↦ subst (λ (z : ℤ). Within z a b) (sym r.2) (le_of_mul-le-mul_right (le_trans (le_of_eq (mul_comm a (2 ^ y))) (le_trans h (le_of_eq (more_left r.0 x y b r.1)))) (pow_pos y))
        | inr r ↦ subst (λ (z : ℤ). Within z a b) (sym r.2) (le_of_mul-le-mul_right (le_trans (le_of_eq (sym (more_left (suc r.0) y x a r.1))) (le_trans h (le_of_eq (mul_comm (2 ^ x) b)))) (pow_pos x))
      ]

  pub within-back : Within (pos x -ℤ pos y) a b → 2 ^ y * a ≤ 2 ^ x * b
  within-back h =
      elim (difference x y) [
        | inl r ↦ le_trans (le_of_eq (mul_comm (2 ^ y) a)) (le_trans (mul-le-mul_right (2 ^ y) (subst (λ (z : ℤ). Within z a b) r.2 h)) (le_of_eq (sym (more_left r.0 x y b r.1))))
        | inr r ↦ le_trans (le_of_eq (more_left (suc r.0) y x a r.1)) (le_trans (mul-le-mul_right (2 ^ x) (subst (λ (z : ℤ). Within z a b) r.2 h)) (le_of_eq (mul_comm b (2 ^ x))))
      ]

-- ---- the relation for an index that is a difference

-- 2 ^ 2048 to the power 2 ^ u: a unit of the magnitude, raised
abbrev unit : ℕ → ℕ
unit u = (2 ^ 2048) ^ (2 ^ u)

pub into : (u t w x y : ℕ) → 2 ^ (x * 2 ^ t) * unit u < 2 ^ (y * 2 ^ t) * w ^ (2 ^ u) → 2 ^ (y * 2 ^ t) * w ^ (2 ^ u) ≤ 2 ^ ((x + 1) * 2 ^ t) * unit u
    → InBucket u t w (pos x -ℤ pos y)
into u t w x y h g =
    record {
      above = subst (λ (z : ℤ). Above z (w ^ (2 ^ u)) (unit u)) (sym (times-sub x y (2 ^ t))) (above-sub (x * 2 ^ t) (y * 2 ^ t) (w ^ (2 ^ u)) (unit u) h);
      within =
          subst (λ (z : ℤ). Within z (w ^ (2 ^ u)) (unit u)) (sym (ap (λ (z : ℤ). z *ℤ pos (2 ^ t)) (suc-sub x y) ∙ times-sub (x + 1) y (2 ^ t)))
          (within-sub ((x + 1) * 2 ^ t) (y * 2 ^ t) (w ^ (2 ^ u)) (unit u) g);
    }

pub out-above : (u t w x y : ℕ) → InBucket u t w (pos x -ℤ pos y) → 2 ^ (x * 2 ^ t) * unit u < 2 ^ (y * 2 ^ t) * w ^ (2 ^ u)
out-above u t w x y i =
    above-back (x * 2 ^ t) (y * 2 ^ t) (w ^ (2 ^ u)) (unit u) (subst (λ (z : ℤ). Above z (w ^ (2 ^ u)) (unit u)) (times-sub x y (2 ^ t)) i.above)

pub out_within : (u t w x y : ℕ) → InBucket u t w (pos x -ℤ pos y) → 2 ^ (y * 2 ^ t) * w ^ (2 ^ u) ≤ 2 ^ ((x + 1) * 2 ^ t) * unit u
out_within u t w x y i =
    within-back ((x + 1) * 2 ^ t) (y * 2 ^ t) (w ^ (2 ^ u)) (unit u)
    (subst (λ (z : ℤ). Within z (w ^ (2 ^ u)) (unit u)) (ap (λ (z : ℤ). z *ℤ pos (2 ^ t)) (suc-sub x y) ∙ times-sub (x + 1) y (2 ^ t)) i.within)

-- a bin with its bias taken off
pub signed : (u t w b B : ℕ) → B * 2 ^ t ≡ 2048 * 2 ^ u → Between u t w b → InBucket u t w (pos b -ℤ pos B)
signed u t w b B e i =
    into u t w b B
    (lt_of_lt_of_le (mul-lt-mul_of_pos_right i.above whole) (le_of_eq (mul_comm (w ^ (2 ^ u)) (unit u) ∙ ap (λ (k : ℕ). k * w ^ (2 ^ u)) is)))
    (le_trans (le_of_eq (ap (λ (k : ℕ). k * w ^ (2 ^ u)) (sym is) ∙ mul_comm (unit u) (w ^ (2 ^ u)))) (mul-le-mul_right (unit u) i.within))
  where
    is : unit u ≡ 2 ^ (B * 2 ^ t)
    is = pow_mul 2 2048 (2 ^ u) ∙ ap (λ (k : ℕ). 2 ^ k) (sym e)

    whole : 0 < unit u
    whole = subst (λ (k : ℕ). 0 < k) (sym is) (pow_pos (B * 2 ^ t))

-- ---- a magnitude has one index

-- x - y is no more than v - z
ordered : (u t w x y v z : ℕ) → InBucket u t w (pos x -ℤ pos y) → InBucket u t w (pos v -ℤ pos z) → x + z ≤ v + y
ordered u t w x y v z i j =
    down x y v z (lt_of_mul-lt-mul_right (2 ^ t) (lt_of_le_of_lt (le_of_eq (add-mul x z (2 ^ t))) (lt_of_lt_of_le
    (pow_lt_back (x * 2 ^ t + z * 2 ^ t) ((v + 1) * 2 ^ t + y * 2 ^ t)
    (lt_of_mul-lt-mul_right (unit u) (lt_of_le_of_lt (le_of_eq (left (x * 2 ^ t) (z * 2 ^ t) (unit u)))
    (lt_of_lt_of_le (mul-lt-mul_of_pos_right (out-above u t w x y i) (pow_pos (z * 2 ^ t)))
    (le_trans (le_of_eq (swap (2 ^ (y * 2 ^ t)) (w ^ (2 ^ u)) (2 ^ (z * 2 ^ t))))
    (le_trans (mul-le-mul_right (2 ^ (y * 2 ^ t)) (out_within u t w v z j)) (le_of_eq (sym (left ((v + 1) * 2 ^ t) (y * 2 ^ t) (unit u))))))))))
    (le_of_eq (sym (add-mul (v + 1) y (2 ^ t)))))))
  where
    left : (p q d : ℕ) → 2 ^ (p + q) * d ≡ 2 ^ p * d * 2 ^ q
    left p q d = ap (λ (k : ℕ). k * d) (pow-add 2 p q) ∙ mul_right_comm (2 ^ p) (2 ^ q) d

    swap : (p a q : ℕ) → p * a * q ≡ q * a * p
    swap p a q = mul_right_comm p a q ∙ ap (λ (k : ℕ). k * a) (mul_comm p q) ∙ mul_right_comm q p a

    down : (x y v z : ℕ) → x + z < v + 1 + y → x + z ≤ v + y
    down x y v z h = omega (arith, h)

pub only : (u t w : ℕ) (i j : ℤ) → InBucket u t w i → InBucket u t w j → i ≡ j
only u t w i j p q =
    let r = as-sub 0 i in
    let s = as-sub 0 j in
    let p' = subst (λ (z : ℤ). InBucket u t w z) r.2 p in
    let q' = subst (λ (z : ℤ). InBucket u t w z) s.2 q in
    r.2
    ∙ same-sub r.0 (r.1 * 1) s.0 (s.1 * 1)
    (le_antisymm (ordered u t w r.0 (r.1 * 1) s.0 (s.1 * 1) p' q') (ordered u t w s.0 (s.1 * 1) r.0 (r.1 * 1) q' p'))
    ∙ sym s.2

-- ---- the index of scale 0, shifted right by k, is an index at the scale -k

pub shifted : (k w : ℕ) (j : ℤ) → InBucket 0 0 w j → InBucket 0 k w (shr_z j (2 ^ k))
shifted k w j i =
    let r = as-sub k j in
    let x = r.0 in
    let q = r.1 in
    let i' = subst (λ (z : ℤ). InBucket 0 0 w z) r.2 i in
    subst (λ (z : ℤ). InBucket 0 k w z) (sym (ap (λ (z : ℤ). shr_z z (2 ^ k)) r.2 ∙ shift-sub x q k))
    (into 0 k w (x / 2 ^ k) q
    (lt_of_le_of_lt (mul-le-mul_right (unit 0) (pow_mono (le_trans (div-mul-le_self x (2 ^ k)) (le_of_eq (one x)))))
    (lt_of_lt_of_le (out-above 0 0 w x (q * 2 ^ k) i') (le_of_eq (sym (ap (λ (n : ℕ). 2 ^ n * w ^ 1) (one (q * 2 ^ k)))))))
    (le_trans (le_of_eq (ap (λ (n : ℕ). 2 ^ n * w ^ 1) (one (q * 2 ^ k))))
    (le_trans (out_within 0 0 w x (q * 2 ^ k) i') (mul-le-mul_right (unit 0) (pow_mono (le_trans (le_of_eq (sym (one (x + 1)))) (next x)))))))
  where
    one : (n : ℕ) → n ≡ n * 1
    one n = omega arith

    next : (x : ℕ) → x + 1 ≤ (x / 2 ^ k + 1) * 2 ^ k
    next x =
        le_trans (sum (x / 2 ^ k * 2 ^ k) (x % 2 ^ k) (2 ^ k) x (div-add-mod' x (2 ^ k)) (mod-lt x (pow_pos k)))
        (le_of_eq (sym (add-mul (x / 2 ^ k) 1 (2 ^ k) ∙ ap (λ (n : ℕ). x / 2 ^ k * 2 ^ k + n) (one-mul (2 ^ k)))))
      where
        sum : (s r p b : ℕ) → s + r ≡ b → r < p → b + 1 ≤ s + p
        sum s r p b e h = omega (arith, e, h)
