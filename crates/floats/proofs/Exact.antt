-- Sums of multiples of 1/1024 that stay within 2 ^ 53 of them are exact. Assumes nothing.
use mathlib.Core.Path.{◌≡◌, refl, sym, ap, ◌∙◌, subst}
use Prim.Native.Nat.{ℕ, zero, suc, ◌+◌, ◌-◌, ◌*◌, ◌^◌, ◌≤◌, ◌<◌}
use native.Mathlib.Nat.{eq-or-lt_of_le, mul_assoc, zero-lt-suc, lt_of_lt_of_le}
use native.Mathlib.Omega.{arith}
use mathlib.Core.Logic.{◌⊎◌, inl, inr}
use mathlib.Core.Bool.{Bool, true, false, not, true≢false, false≢true}
use borrow.Author.Tests.{lt-ltb, le-ltb}
use lib.IntN.{ℤ, pos, negsuc, nat_abs, ◌+ℤ◌}
use lib.Dec.{T, ltb, ltb→lt, nltb→le, lit<, lit≤}
use lib.Pow.{pow-add, pow_mono, shl_lt}
use lib.Ieee.{Float, nan, inf, fin, binary64, round, sum, add}
use lib.Ieee.Exact.{HasValue, round_exact}
use Rattle.floats.specs.Grid.{grid, signed, OnGrid}
use Rattle.floats.proofs.Fractions.{add_at}

-- ---- grid z is z / 1024
one-lt : 1 < 2 ^ 53
one-lt = lit< tt

small_val : (s : Bool) (n : ℕ) → n < 2 ^ 53 → HasValue (round binary64 s n 1024) s n 1024
small_val s n h = round_exact binary64 s n 1024 n 1064 (zero-lt-suc 1023) h
    (lt_of_lt_of_le (shl_lt 53 1064 h) (pow_mono {i = 53 + 1064} {j = 1074 + 1024} (lit≤ tt)))
    (ap (λ (z : ℕ). n * z) (pow-add 2 1064 10) ∙ sym (mul_assoc n (2 ^ 1064) 1024))

top_val : (s : Bool) → HasValue (round binary64 s (2 ^ 53) 1024) s (2 ^ 53) 1024
top_val s = round_exact binary64 s (2 ^ 53) 1024 1 1117 (zero-lt-suc 1023) one-lt (lit< tt) refl

val : (s : Bool) (n : ℕ) → n ≤ 2 ^ 53 → HasValue (round binary64 s n 1024) s n 1024
val s n h = go (eq-or-lt_of_le h)
  where
    go : (n ≡ 2 ^ 53) ⊎ (n < 2 ^ 53) → HasValue (round binary64 s n 1024) s n 1024
    go (inl e) = subst (λ (x : ℕ). HasValue (round binary64 s x 1024) s x 1024) (sym e) (top_val s)
    go (inr l) = small_val s n l

-- ---- what the sum of a's and b's 1/1024ths is. A sum whose first summand is not -0 is never -0
zero-le : (a : ℕ) → 0 ≤ a
zero-le a = omega arith

less_none : (a : ℕ) → a - 0 ≡ a + 0
less_none a = omega arith

more-one : (a b : ℕ) → a < suc b → suc b - a ≡ suc (suc b - suc a)
more-one a b h = omega arith

sum-pos : (a : ℕ) (t : Bool) (b : ℕ) → sum binary64 false a t b 1024 ≡ grid (pos a +ℤ signed t b)
unfolding sum grid
sum-pos a false b = refl
sum-pos a true zero = rw (le-ltb a 0 (zero-le a)) (ap (λ (n : ℕ). round binary64 false n 1024) (less_none a))
sum-pos a true (suc b) = go (ltb a (suc b)) refl (ltb→lt a (suc b))
  where
    go : (c : Bool) → ltb a (suc b) ≡ c → (T c → a < suc b) → sum binary64 false a true (suc b) 1024 ≡ grid (pos a +ℤ signed true (suc b))
    go true e h = rw e (ap (λ (n : ℕ). round binary64 true n 1024) (more-one a b (h tt)))
    go false e h = rw e

two_sucs : (a b : ℕ) → suc a + suc b ≡ suc (suc (a + b))
two_sucs a b = omega arith

suc-none : (a : ℕ) → suc a + 0 ≡ suc (suc a - 1)
suc-none a = omega arith

both-none : (a b : ℕ) → b ≤ suc a → suc a ≤ b → suc a - b ≡ b - suc a
both-none a b h k = omega arith

one_side : (a b : ℕ) → suc a < b → b < suc a → ⊥
one_side a b h k = omega arith

less_one : (a b : ℕ) → b < suc a → suc a - b ≡ suc (suc a - suc b)
less_one a b h = omega arith

sum-neg : (a : ℕ) (t : Bool) (b : ℕ) → sum binary64 true (suc a) t b 1024 ≡ grid (negsuc a +ℤ signed t b)
unfolding sum grid
sum-neg a true zero = rw (lt-ltb 0 (suc a) (zero-lt-suc a)) (ap (λ (n : ℕ). round binary64 true n 1024) (suc-none a))
sum-neg a true (suc b) = ap (λ (n : ℕ). round binary64 true n 1024) (two_sucs a b)
sum-neg a false b = go (ltb (suc a) b) (ltb b (suc a)) refl refl (ltb→lt (suc a) b) (nltb→le (suc a) b) (ltb→lt b (suc a)) (nltb→le b (suc a))
  where
    go : (c d : Bool) → ltb (suc a) b ≡ c → ltb b (suc a) ≡ d → (T c → suc a < b) → (T (not c) → b ≤ suc a) → (T d → b < suc a) → (T (not d) → suc a ≤ b)
        → sum binary64 true (suc a) false b 1024 ≡ grid (negsuc a +ℤ signed false b)
    go true true e e' h h' k k' = absurd (one_side a b (h tt) (k tt))
    go true false e e' h h' k k' = rw (e, e')
    go false true e e' h h' k k' = rw (e, e') (ap (λ (n : ℕ). round binary64 true n 1024) (less_one a b (k tt)))
    go false false e e' h h' k k' = rw (e, e') (ap (λ (n : ℕ). round binary64 false n 1024) (both-none a b (h' tt) (k' tt)))

-- ---- a value on the grid, by its sign and magnitude
abbrev pub sign : Float → Bool
sign nan = false
sign (inf s) = s
sign (fin s m e) = s

value_of : (x : Float) (z : ℤ) → OnGrid x z → HasValue x (sign x) (nat_abs z) 1024
value_of nan z h = h
value_of (inf s) z h = h
value_of (fin s m e) z h = (refl, h.0)

signed_of : (x : Float) (z : ℤ) → OnGrid x z → signed (sign x) (nat_abs z) ≡ z
signed_of nan z h = absurd h
signed_of (inf s) z h = absurd h
signed_of (fin s m e) z h = h.1

on_of : (x : Float) (s : Bool) (a : ℕ) → HasValue x s a 1024 → OnGrid x (signed s a)
on_of nan s a h = h
on_of (inf t) s a h = h
on_of (fin true m e) true zero h = (h.1, refl)
on_of (fin true m e) true (suc a) h = (h.1, refl)
on_of (fin true m e) false a h = absurd (true≢false h.0)
on_of (fin false m e) true a h = absurd (false≢true h.0)
on_of (fin false m e) false a h = (h.1, refl)

-- grid z is z / 1024, up to 2 ^ 53 of them
pub grid-exact : (z : ℤ) → nat_abs z ≤ 2 ^ 53 → OnGrid (grid z) z
unfolding grid
grid-exact (pos n) h = on_of (round binary64 false n 1024) false n (val false n h)
grid-exact (negsuc n) h = on_of (round binary64 true (suc n) 1024) true (suc n) (val true (suc n) h)

-- THE SUM IS EXACT: z and w may be any with |z| ≤ 2 ^ 53; where |z + w| is too, grid (z + w) is (z + w) / 1024 (`grid-exact`).
-- y may be -0; grid z is never -0, and so the sum is not.
pub add-grid : (z w : ℤ) (y : Float) → nat_abs z ≤ 2 ^ 53 → OnGrid y w → add binary64 (grid z) y ≡ grid (z +ℤ w)
unfolding grid
add-grid (pos n) w y h k =
    add_at binary64 (round binary64 false n 1024) y false n (sign y) (nat_abs w) 1024 (zero-lt-suc 1023) (val false n h) (value_of y w k)
    ∙ sum-pos n (sign y) (nat_abs w) ∙ ap (λ (v : ℤ). grid (pos n +ℤ v)) (signed_of y w k)
add-grid (negsuc n) w y h k =
    add_at binary64 (round binary64 true (suc n) 1024) y true (suc n) (sign y) (nat_abs w) 1024 (zero-lt-suc 1023) (val true (suc n) h) (value_of y w k)
    ∙ sum-neg n (sign y) (nat_abs w) ∙ ap (λ (v : ℤ). grid (negsuc n +ℤ v)) (signed_of y w k)
