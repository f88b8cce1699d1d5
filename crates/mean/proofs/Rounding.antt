-- Rounding to the nearest whole number: what it is by the tests of the code, that it is nearest, and where a half goes. Assumes nothing.
use mathlib.Core.Path.{◌≡◌, refl, sym, ap, ◌∙◌, subst}
use mathlib.Core.Logic.{◌⊎◌, inl, inr}
use mathlib.Core.Bool.{Bool, true, false}
use Prim.Native.Nat.{ℕ, zero, suc, ◌+◌, ◌*◌, ◌/◌, ◌%◌, ◌^◌, ◌≤◌, ◌<◌}
use native.Mathlib.Nat.{add-mul, one-mul, mod-lt, mod-eq_of_lt, mod-le, div-eq_of_lt, div-eq_of_lt-le, div-add-mod', div-le_self}
use native.Mathlib.Nat.{le_trans, le_of_lt}
use native.Mathlib.Omega.{arith}
use borrow.Author.Tests.{ltb-true, ltb-false, lt-ltb, le-ltb}
use lib.Dec.{ltb}
use lib.IntN.{ℤ, pos, negsuc, neg_ℤ, nat_abs, ◌-ℤ◌, ◌*ℤ◌}
use Rattle.laws.specs.Pick.{pick}
use Rattle.laws.proofs.Differences.{difference}
use Rattle.mean.specs.Rule.{half}
use Rattle.mean.specs.Rounding.{rounded, nearest, hundredths}

-- ---- THE RULE takes a half to one of its two neighbours: all that is used of it
pub half_neighbour : (q : ℕ) → (half q ≡ q) ⊎ (half q ≡ q + 1)
unfolding half
half_neighbour q = inr refl

-- ---- by the tests of the code
module _ (q r d : ℕ) where
  pub rounded-down : 2 * r < d → rounded q r d ≡ q
  unfolding rounded pick
  rounded-down h = simp (lt-ltb (2 * r) d h) refl

  pub rounded-up : d < 2 * r → rounded q r d ≡ q + 1
  unfolding rounded pick
  rounded-up h = simp (le-ltb (2 * r) d (le_of_lt h)) (simp (lt-ltb d (2 * r) h) refl)

  pub rounded-half : d ≤ 2 * r → 2 * r ≤ d → rounded q r d ≡ half q
  unfolding rounded pick
  rounded-half h k = simp (le-ltb (2 * r) d h) (simp (le-ltb d (2 * r) k) refl)

-- a fraction below a half is 0
pub near-zero : (a d : ℕ) → 2 * a < d → nearest a d ≡ 0
unfolding nearest
near-zero a d h =
    let l : a < d = omega (arith, h) in
    ap (λ (q : ℕ). rounded q (a % d) d) (div-eq_of_lt l) ∙ ap (λ (r : ℕ). rounded 0 r d) (mod-eq_of_lt l) ∙ rounded-down 0 a d h

-- ---- the ranges of the code: at most 2 ^ 53 steps
pub far : (steps count : ℕ) → steps ≤ 2 ^ 53 → 2 ^ 52 < count → 2 * (steps * 100) < count * 1024
far steps count h k = omega (arith, h, k)

most-times : (steps : ℕ) → steps ≤ 2 ^ 53 → steps * 100 ≤ 2 ^ 60
most-times steps h = omega (arith, h)

pub quotient_le : (steps d : ℕ) → steps ≤ 2 ^ 53 → steps * 100 / d ≤ 2 ^ 60
quotient_le steps d h = le_trans (div-le_self (steps * 100) d) (most-times steps h)

pub remainder-le : (steps d : ℕ) → steps ≤ 2 ^ 53 → steps * 100 % d ≤ 2 ^ 62
remainder-le steps d h = more (steps * 100 % d) (le_trans (mod-le (steps * 100) d) (most-times steps h))
  where
    more : (n : ℕ) → n ≤ 2 ^ 60 → n ≤ 2 ^ 62
    more n h = omega (arith, h)

-- ---- n is nearest to a / d: twice the distance of n * d and a is at most d
pub record Nearest (n a d : ℕ) : Type 0 where
  pub low : 2 * a ≤ 2 * (n * d) + d
  pub high : 2 * (n * d) ≤ 2 * a + d

next : (q d : ℕ) → (q + 1) * d ≡ q * d + d
next q d = add-mul q 1 d ∙ ap (λ (z : ℕ). q * d + z) (one-mul d)

at : (q r a d : ℕ) → q * d + r ≡ a → 2 * r ≤ d → Nearest q a d
at q r a d e h = record { low = omega (arith, e, h); high = omega (arith, e, h) }

at_next : (q r a d : ℕ) → q * d + r ≡ a → r < d → d ≤ 2 * r → Nearest (q + 1) a d
at_next q r a d e l h = record { low = omega (arith, e, l, next q d); high = omega (arith, e, h, next q d) }

-- q or q + 1, whatever the rule
pub rounded-le : (q r d : ℕ) → rounded q r d ≤ q + 1
unfolding rounded pick
rounded-le q r d = go (ltb (2 * r) d) (ltb d (2 * r))
  where
    ruled : (n : ℕ) → (n ≡ q) ⊎ (n ≡ q + 1) → n ≤ q + 1
    ruled n (inl f) = omega (arith, f)
    ruled n (inr f) = omega (arith, f)

    go : (u v : Bool) → pick u q (pick v (q + 1) (half q)) ≤ q + 1
    go true v = omega arith
    go false true = omega arith
    go false false = ruled (half q) (half_neighbour q)

-- THE ROUNDED NUMBER IS NEAREST
pub nearest-is : (a d : ℕ) → 0 < d → Nearest (nearest a d) a d
unfolding nearest rounded pick
nearest-is a d p = all (a / d) (a % d) (div-add-mod' a d) (mod-lt a p)
  where
    all : (q r : ℕ) → q * d + r ≡ a → r < d → Nearest (pick (ltb (2 * r) d) q (pick (ltb d (2 * r)) (q + 1) (half q))) a d
    all q r e l = go (ltb (2 * r) d) (ltb d (2 * r)) refl refl
      where
        to : (n : ℕ) → (n ≡ q) ⊎ (n ≡ q + 1) → d ≤ 2 * r → 2 * r ≤ d → Nearest n a d
        to n (inl f) h k = subst (λ (z : ℕ). Nearest z a d) (sym f) (at q r a d e k)
        to n (inr f) h k = subst (λ (z : ℕ). Nearest z a d) (sym f) (at_next q r a d e l h)

        go : (u v : Bool) → ltb (2 * r) d ≡ u → ltb d (2 * r) ≡ v → Nearest (pick u q (pick v (q + 1) (half q))) a d
        go true v h k = at q r a d e (le_of_lt (ltb-true (2 * r) d h))
        go false true h k = at_next q r a d e l (ltb-false (2 * r) d h)
        go false false h k = to (half q) (half_neighbour q) (ltb-false (2 * r) d h) (ltb-false d (2 * r) k)

-- A HALF GOES WHERE THE RULE SAYS: a / d is k and a half
pub half-goes : (k a d : ℕ) → 0 < d → 2 * a ≡ 2 * (k * d) + d → nearest a d ≡ half k
unfolding nearest
half-goes k a d p e =
    ap (λ (q : ℕ). rounded q (a % d) d) quotient
    ∙ rounded-half k (a % d) d (from remainder) (to remainder)
  where
    least : (x : ℕ) → 2 * a ≡ 2 * x + d → x ≤ a
    least x e = omega (arith, e)

    most : (x : ℕ) → 2 * a ≡ 2 * x + d → a < x + d
    most x e = omega (arith, e, p)

    quotient : a / d ≡ k
    quotient = div-eq_of_lt-le d (least (k * d) e) (subst (λ (z : ℕ). a < z) (sym (next k d)) (most (k * d) e))

    remainder : k * d + a % d ≡ a
    remainder = ap (λ (z : ℕ). z * d + a % d) (sym quotient) ∙ div-add-mod' a d

    twice : (x r : ℕ) → x + r ≡ a → 2 * a ≡ 2 * x + d → 2 * r ≡ d
    twice x r h k = omega (arith, h, k)

    from : k * d + a % d ≡ a → d ≤ 2 * (a % d)
    from h = let t = twice (k * d) (a % d) h e in omega (arith, t)

    to : k * d + a % d ≡ a → 2 * (a % d) ≤ d
    to h = let t = twice (k * d) (a % d) h e in omega (arith, t)

-- ---- with the sign: the mean times count * 1024 is off 100 times the steps by at most a half of count * 1024
distance : (x y d : ℕ) → 2 * y ≤ 2 * x + d → 2 * x ≤ 2 * y + d → nat_abs (pos x -ℤ pos y) * 2 ≤ d
distance x y d h k =
    elim (difference x y) [
      | inl r ↦ subst (λ (z : ℤ). nat_abs z * 2 ≤ d) (sym r.2) (up r.0 r.1)
      | inr r ↦ subst (λ (z : ℤ). nat_abs z * 2 ≤ d) (sym r.2) (down r.0 r.1)
    ]
  where
    up : (n : ℕ) → x ≡ n + y → n * 2 ≤ d
    up n e = omega (arith, e, h, k)

    down : (n : ℕ) → y ≡ suc n + x → suc n * 2 ≤ d
    down n e = omega (arith, e, h, k)

neg-times : (n d : ℕ) → neg_ℤ (pos n) *ℤ pos d ≡ neg_ℤ (pos (n * d))
neg-times zero d = ap pos (zero-times d) ∙ ap (λ (k : ℕ). neg_ℤ (pos k)) (sym (zero-times d))
  where
    zero-times : (d : ℕ) → 0 * d ≡ 0
    zero-times d = omega arith
neg-times (suc n) d = refl

abs-minus : (x y : ℕ) → nat_abs (neg_ℤ (pos x) -ℤ neg_ℤ (pos y)) ≡ nat_abs (pos y -ℤ pos x)
abs-minus zero zero = refl
abs-minus zero (suc y) = same y
  where
    same : (y : ℕ) → 0 + suc y ≡ suc y + 0
    same y = omega arith
abs-minus (suc x) zero = refl
abs-minus (suc x) (suc y) = refl

count-pos : (count : ℕ) → 0 < count → 0 < count * 1024
count-pos count h = omega (arith, h)

pub hundredths-nearest : (z : ℤ) (count : ℕ) → 0 < count
    → nat_abs (hundredths z count *ℤ pos (count * 1024) -ℤ z *ℤ pos 100) * 2 ≤ count * 1024
hundredths-nearest (pos n) count p =
    let h = nearest-is (n * 100) (count * 1024) (count-pos count p) in
    distance (nearest (n * 100) (count * 1024) * (count * 1024)) (n * 100) (count * 1024) h.low h.high
hundredths-nearest (negsuc n) count p =
    let h = nearest-is (suc n * 100) (count * 1024) (count-pos count p) in
    let m = nearest (suc n * 100) (count * 1024) in
    subst (λ (z : ℤ). nat_abs (z -ℤ neg_ℤ (pos (suc n * 100))) * 2 ≤ count * 1024) (sym (neg-times m (count * 1024)))
    (subst (λ (z : ℕ). z * 2 ≤ count * 1024) (sym (abs-minus (m * (count * 1024)) (suc n * 100)))
    (distance (suc n * 100) (m * (count * 1024)) (count * 1024) h.high h.low))

-- where the mean is k and a half hundredths, the rule says
pub hundredths-half : (z : ℤ) (count k : ℕ) → 0 < count → 2 * (nat_abs z * 100) ≡ 2 * (k * (count * 1024)) + count * 1024
    → nat_abs (hundredths z count) ≡ half k
hundredths-half (pos n) count k p e = half-goes k (n * 100) (count * 1024) (count-pos count p) e
hundredths-half (negsuc n) count k p e =
    abs_neg (nearest (suc n * 100) (count * 1024)) ∙ half-goes k (suc n * 100) (count * 1024) (count-pos count p) e
  where
    abs_neg : (m : ℕ) → nat_abs (neg_ℤ (pos m)) ≡ m
    abs_neg zero = refl
    abs_neg (suc m) = refl
