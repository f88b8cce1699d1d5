-- Sums and differences of 32-bit integers that stay in their range. Assumes nothing.
use mathlib.Core.Path.{◌≡◌, refl, sym, ap, ◌∙◌, subst}
use mathlib.Core.Bool.{Bool, true, false}
use Prim.Native.Nat.{ℕ, zero, suc, ◌+◌, ◌-◌, ◌*◌, ◌%◌, ◌^◌, ◌≤◌, ◌<◌}
use native.Mathlib.Nat.{lt_of_le_of_lt, mod-eq_of_lt, mul-le-mul, mul_comm}
use native.Mathlib.Omega.{arith}
use borrow.Author.Tests.{ltb-false, leb-false, le-ltb}
use lib.Dec.{T, ltb, lit<, lit≤}
use lib.Pow.{pow_mono, pow-add}
use lib.IntN.{ℤ, pos, negsuc, nat_abs, ◌+ℤ◌, ◌-ℤ◌}
use lib.Signed.{mag, lt_z, le_z, non_neg}
use mir.Syntax.{w32}
use mir.Val.{SFits, Fits, to_z, of_z}
use mir.ValLaws.{to_z_pos, to_z-of_z}
use Rattle.index.specs.Bins.{finest}

-- ---- powers of two up to the finest level's

pub shifted : (k level : ℕ) → k ≤ 3 → level ≤ finest → k * 2 ^ level % 4294967296 ≡ k * 2 ^ level
shifted k level h g = mod-eq_of_lt (lt_of_le_of_lt (mul-le-mul h (pow_mono g)) (lit< tt))

pub doubled : (level : ℕ) → level ≤ finest → 2 * 2 ^ level % 4294967296 ≡ 2 ^ (level + 1)
doubled level h = shifted 2 level (lit≤ tt) h ∙ mul_comm 2 (2 ^ level) ∙ sym (pow-add 2 level 1)

pub bias-small : (level : ℕ) → level ≤ finest → 2 ^ (level + 1) ≤ 2097152
bias-small level h = pow_mono (up level h)
  where
    up : (level : ℕ) → level ≤ 20 → level + 1 ≤ 21
    up level h = omega (arith, h)

-- ---- differences

diff-lt : (a b m : ℕ) → a < m → b < m → mag (pos a -ℤ pos b) < m
diff-lt a zero m h k = plus a m h
  where
    plus : (a m : ℕ) → a < m → a + 0 < m
    plus a m h = omega arith
diff-lt a (suc b) m h k = go (ltb a (suc b)) refl
  where
    down : suc b - suc a < m
    down = omega arith

    up : a - suc b < m
    up = omega arith

    go : (t : Bool) → ltb a (suc b) ≡ t → mag (pos a -ℤ pos (suc b)) < m
    go true e = rw e down
    go false e = rw e up

module _ (a b : ℕ) (h : a < 2147483648) (k : b < 2147483648) where
  is : to_z w32 a -ℤ to_z w32 b ≡ pos a -ℤ pos b
  is = ap (λ (z : ℤ). z -ℤ to_z w32 b) (to_z_pos w32 a h) ∙ ap (λ (z : ℤ). pos a -ℤ z) (to_z_pos w32 b k)

  pub difference-fits : SFits w32 (to_z w32 a -ℤ to_z w32 b)
  difference-fits = subst (λ (z : ℤ). SFits w32 z) (sym is) (record { sfits = diff-lt a b 2147483648 h k })

  pub difference-is : to_z w32 (of_z w32 (to_z w32 a -ℤ to_z w32 b)) ≡ pos a -ℤ pos b
  difference-is = to_z-of_z w32 (to_z w32 a -ℤ to_z w32 b) difference-fits ∙ is

-- ---- sums of an integer below a and a whole number

sum_lt : (z : ℤ) (a b m : ℕ) → mag z < m → le_z (pos a) z ≡ false → a + b ≤ m → mag (z +ℤ pos b) < m
sum_lt (pos n) a b m h l g = under n a b m (leb-false a n l) g
  where
    under : (n a b m : ℕ) → n < a → a + b ≤ m → n + b < m
    under n a b m h g = omega (arith, h, g)
sum_lt (negsuc n) a b m h l g = go (ltb b (suc n)) refl
  where
    down : suc n - suc b < m
    down = omega (arith, h)

    up : b - suc n < m
    up = omega (arith, g, h)

    go : (t : Bool) → ltb b (suc n) ≡ t → mag (negsuc n +ℤ pos b) < m
    go true e = rw e down
    go false e = rw e up

module _ (z : ℤ) (a b : ℕ) (f : SFits w32 z) (l : le_z (pos a) z ≡ false) (g : a + b ≤ 2147483648) (k : b < 2147483648) where
  sum : to_z w32 (of_z w32 z) +ℤ to_z w32 b ≡ z +ℤ pos b
  sum = ap (λ (x : ℤ). x +ℤ to_z w32 b) (to_z-of_z w32 z f) ∙ ap (λ (x : ℤ). z +ℤ x) (to_z_pos w32 b k)

  pub sum_fits : SFits w32 (to_z w32 (of_z w32 z) +ℤ to_z w32 b)
  sum_fits = subst (λ (x : ℤ). SFits w32 x) (sym sum) (record { sfits = sum_lt z a b 2147483648 f.sfits l g })

  pub sum_is : to_z w32 (of_z w32 (to_z w32 (of_z w32 z) +ℤ to_z w32 b)) ≡ z +ℤ pos b
  sum_is = to_z-of_z w32 (to_z w32 (of_z w32 z) +ℤ to_z w32 b) sum_fits ∙ sum

  -- one that is not negative is a 32-bit whole number
  pub sum-natural : T (non_neg (z +ℤ pos b)) → T (non_neg (to_z w32 (of_z w32 (to_z w32 (of_z w32 z) +ℤ to_z w32 b)))) × Fits w32 (nat_abs (to_z w32 (of_z w32 (to_z w32 (of_z w32 z) +ℤ to_z w32 b))))
  sum-natural n = (
    subst (λ (x : ℤ). T (non_neg x)) (sym sum_is) n,
    subst (λ (x : ℤ). Fits w32 (nat_abs x)) (sym sum_is) (natural (z +ℤ pos b) n (sum_lt z a b 2147483648 f.sfits l g)),
  )
    where
      natural : (x : ℤ) → T (non_neg x) → mag x < 2147483648 → Fits w32 (nat_abs x)
      natural (pos n) t h = record { fits = omega (arith, h) }
      natural (negsuc n) t h = absurd t

-- ---- tests

pub not_negative : (z : ℤ) → lt_z z (pos 0) ≡ false → T (non_neg z)
not_negative (pos n) h = tt
not_negative (negsuc n) h = absurd (subst T h tt)

pub not-below : (z : ℤ) → lt_z z (negsuc 9) ≡ false → T (non_neg (z +ℤ pos 10))
not-below (pos n) h = tt
not-below (negsuc n) h = rw (le-ltb 10 (suc n) (up n (ltb-false 9 n h))) tt
  where
    up : (n : ℕ) → n ≤ 9 → suc n ≤ 10
    up n h = omega (arith, h)

pub next : (a : ℕ) (z : ℤ) → lt_z (pos a) z ≡ le_z (pos (suc a)) z
next a (pos n) = refl
next a (negsuc n) = refl
