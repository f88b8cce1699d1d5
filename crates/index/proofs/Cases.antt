-- What `bin_of` is, by the tests of `get_bin`. Assumes nothing.
use mathlib.Core.Path.{◌≡◌, refl, sym, ap, ◌∙◌}
use mathlib.Core.Bool.{Bool, true, false}
use Prim.Native.Nat.{ℕ, ◌*◌, ◌/◌, ◌-◌, ◌^◌, ◌≤◌, ◌<◌}
use native.Mathlib.Nat.{one-le-mul}
use native.Mathlib.Omega.{arith}
use borrow.Author.Tests.{le-leb, lt-leb, eq-eqb, ne_eqb}
use lib.Ieee.{Float}
use lib.Ieee.Scale.{finite}
use lib.Pow.{pow_pos}
use Rattle.laws.specs.Pick.{pick}
use Rattle.index.specs.Magnitude.{magnitude, is_negative}
use Rattle.index.specs.Bins.{finest, finest_bin, bin_at}
use Rattle.index.specs.Frexp.{Split}
use Rattle.index.specs.Answers.{bin_of}
use Rattle.index.specs.declared.Bin.TheVariants.{NoLevel, NotFinite, Zero, At}

pub no-level : (x : Float) (level : ℕ) → finest < level → bin_of x level ≡ NoLevel
unfolding bin_of pick
no-level x level h = simp (lt-leb level finest h) refl

pub not_finite : (x : Float) (level : ℕ) → level ≤ finest → finite x ≡ false → bin_of x level ≡ NotFinite
unfolding bin_of pick
not_finite x level h f = simp (le-leb level finest h) (simp f refl)

pub zero : (x : Float) (level : ℕ) → level ≤ finest → finite x ≡ true → magnitude x ≡ 0 → bin_of x level ≡ Zero
unfolding bin_of pick
zero x level h f z = simp (le-leb level finest h) (simp f (simp (eq-eqb (magnitude x) 0 z) refl))

pub at : (x : Float) (level : ℕ) → level ≤ finest → finite x ≡ true → (magnitude x ≡ 0 → ⊥) → bin_of x level ≡ At (is_negative x) (bin_at level (magnitude x))
unfolding bin_of pick
at x level h f z = simp (le-leb level finest h) (simp f (simp (ne_eqb (magnitude x) 0 z) refl))

-- from the parts of a number
pub at_split : (x : Float) (level : ℕ) (s : Bool) (m e : ℕ) → level ≤ finest → Split x s m e → bin_of x level ≡ At s (finest_bin (m * 2 ^ e) / 2 ^ (finest - level))
at_split x level s m e h p =
    at x level h p.finite (λ (z : magnitude x ≡ 0). clash (m * 2 ^ e) (sym p.value ∙ z) positive)
    ∙ ap (λ (b : Bool). At b (bin_at level (magnitude x))) p.sign
    ∙ ap (λ (w : ℕ). At s (bin_at level w)) p.value
  where
    positive : 0 < m * 2 ^ e
    positive = one-le-mul one (pow_pos e)
      where
        one : 1 ≤ m
        one = omega (arith, p.least)

    clash : (n : ℕ) → n ≡ 0 → 0 < n → ⊥
    clash n e h = omega (arith, e, h)
