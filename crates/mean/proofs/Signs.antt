-- A magnitude of at most 2 ^ 61 with its sign, as an i64. Assumes nothing.
use Prim.Native.Nat.{ℕ, zero, suc, ◌+◌, ◌^◌, ◌≤◌, ◌<◌}
use mathlib.Core.Path.{◌≡◌, sym, ap, ◌∙◌, subst}
use native.Mathlib.Omega.{arith}
use lib.IntN.{ℤ, pos, neg_ℤ, ◌-ℤ◌}
use lib.Signed.{mag}
use mir.Syntax.{w64}
use mir.Val.{SFits, to_z, of_z}
use mir.ValLaws.{to_z_pos, to_z-of_z}
use Rattle.laws.proofs.Differences.{sub_more}

minus : (n : ℕ) → pos 0 -ℤ pos n ≡ neg_ℤ (pos n)
minus n = ap (λ (m : ℕ). pos 0 -ℤ pos m) (plus n) ∙ sub_more n 0
  where
    plus : (n : ℕ) → n ≡ n + 0
    plus n = omega arith

mag-minus : (n : ℕ) → n < 9223372036854775808 → mag (neg_ℤ (pos n)) < 9223372036854775808
mag-minus zero h = h
mag-minus (suc n) h = omega (arith, h)

module _ (n : ℕ) (h : n ≤ 2 ^ 61) where
  small : n < 9223372036854775808
  small = omega (arith, h)

  pub plain : to_z w64 n ≡ pos n
  plain = to_z_pos w64 n small

  minus_is : to_z w64 0 -ℤ to_z w64 n ≡ neg_ℤ (pos n)
  minus_is = ap (λ (z : ℤ). to_z w64 0 -ℤ z) plain ∙ minus n

  pub minus-fits : SFits w64 (to_z w64 0 -ℤ to_z w64 n)
  minus-fits = subst (λ (z : ℤ). SFits w64 z) (sym minus_is) (record { sfits = mag-minus n small })

  pub minus-said : to_z w64 (of_z w64 (to_z w64 0 -ℤ to_z w64 n)) ≡ neg_ℤ (pos n)
  minus-said = to_z-of_z w64 (to_z w64 0 -ℤ to_z w64 n) minus-fits ∙ minus_is
