-- `of_bits` meets its contract: there is one NaN, and bits above those of infinity, but for the sign, are its. Assumes nothing.
use Prim.Native.Nat.{◌%◌}
use mathlib.Core.Path.{◌≡◌, refl, sym, ◌∙◌, subst}
use mathlib.Core.Bool.{Bool, true, false, not}
use native.Mathlib.Omega.{arith}
use borrow.Author.Tests.{lt-ltb, le-ltb}
use lib.Dec.{T}
use lib.Ieee.{Float, nan, inf, fin, binary64, div, of_bits, is_nan}
use lib.Ieee.Bits.{nan_bits_is, nan_bits_above}
use Rattle.laws.proofs.Bools.{not-both}
use Rattle.floats.proofs.of_bits.Goals as goal

nan-only : (x : Float) → is_nan x ≡ true → nan ≡ x
unfolding is_nan
nan-only nan h = refl
nan-only (inf s) h = absurd (not-both false h refl)
nan-only (fin s m e) h = absurd (not-both false h refl)

zeros : div binary64 (of_bits binary64 0) (of_bits binary64 0) ≡ nan
unfolding div of_bits
zeros = refl

pub returns-then-bits-gt9218868437227405312 : goal.returns-then-bits-gt9218868437227405312
returns-then-bits-gt9218868437227405312 c =
    zeros ∙ nan-only (of_bits binary64 c.args.bits) (sym (nan_bits_is binary64 c.args.bits) ∙ nan_bits_above binary64 c.args.bits ∙ lt-ltb 9218868437227405312 (c.args.bits % 9223372036854775808) c.if-bits-gt9218868437227405312.true)

pub float_from_bits-result : goal.float_from_bits-result
float_from_bits-result c =
    subst (λ (b : Bool). T (not b)) (sym (nan_bits_above binary64 c.args.bits ∙ le-ltb 9218868437227405312 (c.args.bits % 9223372036854775808) (omega (arith, c.if-bits-gt9218868437227405312.false)))) tt
