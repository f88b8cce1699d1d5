-- Tests of a float: it is finite where `x - x == 0.0`, for an infinity less itself is a NaN, which equals nothing; it is a NaN where
-- `x != x`. Assumes nothing.
use mathlib.Core.Path.{◌≡◌, refl, sym, ap, ◌∙◌}
use Prim.Native.Nat.{ℕ, ◌-◌, ◌*◌, ◌<◌}
use native.Mathlib.Nat.{zero-mul, mul-pos, zero-lt-suc}
use native.Mathlib.Omega.{arith}
use mathlib.Core.Bool.{Bool, true, false, not}
use lib.IntN.{ℤ, pos}
use lib.Dec.{T, ltb, ltb→lt}
use lib.Ieee.{Float, nan, inf, fin, binary64, up, down, round, sum, sub, eq, ne, is_nan}
use borrow.Author.Tests.{not-false}
use lib.Ieee.Compare.{differs_from_itself}
use lib.Ieee.Fits.{down_pos}
use lib.Ieee.Scale.{round_same, finite}

abbrev zero_f : Float
zero_f = fin false 0 (pos 0)

round-zero : (c : ℕ) → 0 < c → round binary64 false 0 c ≡ zero_f
unfolding round
round-zero c C = round_same binary64 false 0 c 0 1 C (zero-lt-suc 0) (zero-mul 1 ∙ sym (zero-mul c))

not-self : (a : ℕ) → ltb a a ≡ false
not-self a = go (ltb a a) (ltb→lt a a)
  where
    never : a < a → ⊥
    never h = omega arith

    go : (b : Bool) → (T b → a < a) → b ≡ false
    go true h = absurd (never (h tt))
    go false h = refl

less-self : (a : ℕ) → a - a ≡ 0
less-self a = omega arith

sum_self : (s : Bool) (a c : ℕ) → 0 < c → sum binary64 s a (not s) a c ≡ zero_f
unfolding sum
sum_self true a c C =
    rw (not-self a, less-self a) (round-zero c C)
sum_self false a c C =
    rw (not-self a, less-self a) (round-zero c C)

sub_self : (s : Bool) (m : ℕ) (e : ℤ) → sub binary64 (fin s m e) (fin s m e) ≡ zero_f
unfolding sub
sub_self s m e = sum_self s (m * up e * down e) (down e * down e) (mul-pos (down_pos e) (down_pos e))

-- THE TEST
pub finite-test : (x : Float) → eq (sub binary64 x x) (fin false 0 (pos 0)) ≡ finite x
unfolding eq sub
finite-test nan = refl
finite-test (inf true) = refl
finite-test (inf false) = refl
finite-test (fin s m e) = ap (λ (y : Float). eq y zero_f) (sub_self s m e)

-- a NaN is what differs from itself
pub nan-test : (x : Float) → ne x x ≡ is_nan x
unfolding ne is_nan
nan-test nan = refl
nan-test (inf true) = refl
nan-test (inf false) = refl
nan-test (fin s m e) = go (ne (fin s m e) (fin s m e)) (differs_from_itself (fin s m e))
  where
    go : (b : Bool) → (T b → fin s m e ≡ nan) → b ≡ false
    go true h = let n = h tt in let z : ◌≡◌ {A = ℕ} 0 1 = cc in absurd (omega arith)
    go false h = refl

-- so every other float equals itself
pub eq_self : (x : Float) → is_nan x ≡ false → eq x x ≡ true
unfolding ne
eq_self x h = not-false (eq x x) (nan-test x ∙ h)
