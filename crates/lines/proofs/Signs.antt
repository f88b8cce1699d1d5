-- A signed number by its sign and its magnitude, as code casts it. Assumes nothing.
use Prim.Native.Nat.{ℕ, zero, suc, ◌+◌, ◌<◌}
use mathlib.Core.Path.{◌≡◌, refl, sym, ap, ◌∙◌, subst}
use mathlib.Core.Bool.{true, false}
use mathlib.Core.List.{◌∷◌}
use native.Mathlib.Nat.{zero-add, lt_of_le_of_lt}
use native.Mathlib.Numerals.{add-one}
use native.Mathlib.Omega.{arith}
use borrow.Author.Tests.{ltb-true}
use lib.Dec.{T, lit<}
use lib.IntN.{ℤ, pos, negsuc, nat_abs, suc_ℤ, ◌+ℤ◌, ◌-ℤ◌, +ℤ_one}
use lib.Signed.{mag, lt_z, non_neg, nat_abs-le}
use mir.Facts.{sfits_widen}
use mir.Syntax.{w32, w64}
use mir.Val.{SFits, Fits, to_z, of_z}
use mir.ValLaws.{to_z-of_z}
use Rattle.laws.proofs.Bools.{not-both}
use Rattle.lines.specs.Written.{decimal, signed}

-- the number above a negative one is no farther from 0
above-small : (z : ℤ) {m : ℕ} → lt_z z (pos 0) ≡ true → mag z < m → mag (suc_ℤ z) < m
above-small (pos k) h l = absurd (omega (arith, ltb-true k 0 h))
above-small (negsuc zero) h l = l
above-small (negsuc (suc k)) h l = omega (arith, l)

minus-above : (z : ℤ) → lt_z z (pos 0) ≡ true → to_z w64 0 -ℤ suc_ℤ z ≡ pos (mag z)
minus-above (pos k) h = absurd (omega (arith, ltb-true k 0 h))
minus-above (negsuc zero) h = refl
minus-above (negsuc (suc k)) h = ap pos (zero-add (suc k))

negative-is : (z : ℤ) → lt_z z (pos 0) ≡ true → 45 ∷ decimal (mag z + 1) ≡ signed z
negative-is (pos k) h = absurd (omega (arith, ltb-true k 0 h))
negative-is (negsuc k) h = ap (λ (n : ℕ). 45 ∷ decimal n) (add-one k)

natural-is : (z : ℤ) → lt_z z (pos 0) ≡ false → T (non_neg z) × (decimal (nat_abs z) ≡ signed z)
natural-is (pos k) h = (tt, refl)
natural-is (negsuc k) h = absurd (not-both true refl h)

module _ (z : ℤ) (f : SFits w64 z) where
  held : to_z w64 (of_z w64 z) ≡ z
  held = to_z-of_z w64 z f

  -- the number above z, and minus it
  abbrev above : ℤ
  above = to_z w64 (of_z w64 z) +ℤ to_z w64 1

  abbrev minus : ℤ
  minus = to_z w64 0 -ℤ to_z w64 (of_z w64 above)

  module _ (n : lt_z (to_z w64 (of_z w64 z)) (pos 0) ≡ true) where
    below : lt_z z (pos 0) ≡ true
    below = subst (λ (y : ℤ). lt_z y (pos 0) ≡ true) held n

    above-is : above ≡ suc_ℤ z
    above-is = ap (λ (y : ℤ). y +ℤ to_z w64 1) held ∙ +ℤ_one z

    pub above-fits : SFits w64 above
    above-fits = subst (λ (y : ℤ). SFits w64 y) (sym above-is) (record { sfits = above-small z below f.sfits })

    minus_is : minus ≡ pos (mag z)
    minus_is = ap (λ (y : ℤ). to_z w64 0 -ℤ y) (to_z-of_z w64 above above-fits ∙ above-is) ∙ minus-above z below

    pub minus-fits : SFits w64 minus
    minus-fits = subst (λ (y : ℤ). SFits w64 y) (sym minus_is) (record { sfits = f.sfits })

    back : to_z w64 (of_z w64 minus) ≡ pos (mag z)
    back = to_z-of_z w64 minus minus-fits ∙ minus_is

    pub minus-natural : T (non_neg (to_z w64 (of_z w64 minus))) × Fits w64 (nat_abs (to_z w64 (of_z w64 minus)))
    minus-natural = (
      subst (λ (y : ℤ). T (non_neg y)) (sym back) tt,
      subst (λ (y : ℤ). Fits w64 (nat_abs y)) (sym back) (record { fits = omega (arith, f.sfits) }),
    )

    pub size_fits : Fits w64 (nat_abs (to_z w64 (of_z w64 minus)) + 1)
    size_fits = subst (λ (y : ℤ). Fits w64 (nat_abs y + 1)) (sym back) (record { fits = omega (arith, f.sfits) })

    pub minus-text : 45 ∷ decimal (nat_abs (to_z w64 (of_z w64 minus)) + 1) ≡ signed z
    minus-text = ap (λ (y : ℤ). 45 ∷ decimal (nat_abs y + 1)) back ∙ negative-is z below

  module _ (n : lt_z (to_z w64 (of_z w64 z)) (pos 0) ≡ false) where
    both : T (non_neg z) × (decimal (nat_abs z) ≡ signed z)
    both = natural-is z (subst (λ (y : ℤ). lt_z y (pos 0) ≡ false) held n)

    small : Fits w64 (nat_abs z)
    small = record { fits = lt_of_le_of_lt (nat_abs-le z f.sfits) (lit< tt) }

    pub natural : T (non_neg (to_z w64 (of_z w64 z))) × Fits w64 (nat_abs (to_z w64 (of_z w64 z)))
    natural = (subst (λ (y : ℤ). T (non_neg y)) (sym held) both.0, subst (λ (y : ℤ). Fits w64 (nat_abs y)) (sym held) small)

    pub natural-text : decimal (nat_abs (to_z w64 (of_z w64 z))) ≡ signed z
    natural-text = ap (λ (y : ℤ). decimal (nat_abs y)) held ∙ both.1

-- a number of 32 bits as one of 64
module _ (z : ℤ) (f : SFits w32 z) where
  pub wide_fits : SFits w64 (to_z w32 (of_z w32 z))
  wide_fits = subst (λ (y : ℤ). SFits w64 y) (sym (to_z-of_z w32 z f)) (sfits_widen tt f)

  pub wide_is : to_z w64 (of_z w64 (to_z w32 (of_z w32 z))) ≡ z
  wide_is = to_z-of_z w64 (to_z w32 (of_z w32 z)) wide_fits ∙ to_z-of_z w32 z f
