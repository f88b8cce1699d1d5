-- The index of an f64 at a scale, from its bin at the scale's level. Assumes nothing.
use mathlib.Core.Path.{◌≡◌, refl, sym, ap, ◌∙◌, subst}
use mathlib.Core.Bool.{Bool, true, false}
use Prim.Native.Nat.{ℕ, suc, ◌+◌, ◌-◌, ◌≤◌}
use native.Mathlib.Omega.{arith}
use borrow.Author.Tests.{ltb-false, le-ltb, eqb-true, eqb-false}
use lib.Dec.{T, eqb}
use lib.IntN.{ℤ, pos, negsuc, nat_abs, ◌+ℤ◌, ◌-ℤ◌}
use lib.Signed.{lt_z}
use lib.Ieee.{Float, binary64, fits}
use lib.Ieee.Scale.{finite}
use Rattle.laws.specs.Pick.{pick}
use Rattle.index.specs.Magnitude.{magnitude, is_negative}
use Rattle.index.specs.DataModel.{IsIndex}
use Rattle.index.specs.Bins.{finest, bin_at, index_of, scale_of}
use Rattle.index.specs.Answers.{bin_of}
use Rattle.index.specs.Signed.{level_answer, at_level, value_index}
use Rattle.index.specs.Inner.{bin_index, signed_at}
use Rattle.std.specs.Prelude.{Option, Some, None}
use Rattle.index.specs.declared.signed.Index.TheVariants as X
use Rattle.index.proofs.Cases.{not_finite, zero, at}
use Rattle.index.proofs.SignedCases.{index_is}
use Rattle.index.proofs.Laws.{bin-range, held}
use Rattle.index.proofs.Indices.{is-index}
use Rattle.laws.proofs.Differences.{sub-add, sub_more}

abbrev number : Option ℕ → ℕ
number None = 0
number (Some n) = n

abbrev Found : Option ℕ → Type 0
Found None = ⊥
Found (Some n) = Unit

-- every level that is answered is a level
level-le : (scale : ℤ) → number (level_answer scale) ≤ finest
unfolding level_answer pick
level-le scale = go (lt_z scale (negsuc 9)) (lt_z (pos 10) scale) refl refl
  where
    small : (z : ℤ) → lt_z z (negsuc 9) ≡ false → lt_z (pos 10) z ≡ false → nat_abs (z +ℤ pos 10) ≤ 20
    small (pos n) h g = up n (ltb-false 10 n g)
      where
        up : (n : ℕ) → n ≤ 10 → n + 10 ≤ 20
        up n h = omega (arith, h)
    small (negsuc n) h g = rw (le-ltb 10 (suc n) (up n (ltb-false 9 n h))) (under n)
      where
        up : (n : ℕ) → n ≤ 9 → suc n ≤ 10
        up n h = omega (arith, h)

        under : (n : ℕ) → 10 - suc n ≤ 20
        under n = omega arith

    go : (a b : Bool) → lt_z scale (negsuc 9) ≡ a → lt_z (pos 10) scale ≡ b → number (pick a None (pick b None (Some (nat_abs (scale +ℤ pos 10))))) ≤ finest
    go true b h g = omega arith
    go false true h g = omega arith
    go false false h g = small scale h g

pub no-scale : (x : Float) (scale : ℤ) → level_answer scale ≡ None → value_index x scale ≡ X.NoScale
unfolding value_index
no-scale x scale e = ap (at_level x) e

-- the bin's answer, with the index in place of the bin, is the index's answer
pub from-bin : (x : Float) (scale : ℤ) (level : ℕ) → T (fits binary64 x) → level_answer scale ≡ Some level → value_index x scale ≡ bin_index level (bin_of x level)
unfolding value_index pick
from-bin x scale level F e = ap (at_level x) e ∙ go (finite x) (eqb (magnitude x) 0) refl refl
  where
    h : level ≤ finest
    h = subst (λ (a : Option ℕ). number a ≤ finest) e (level-le scale)

    go : (f z : Bool) → finite x ≡ f → eqb (magnitude x) 0 ≡ z
        → pick f (pick z X.Zero (X.At (is_negative x) (index_of level (bin_at level (magnitude x))))) X.NotFinite ≡ bin_index level (bin_of x level)
    go false z p q = ap (bin_index level) (sym (not_finite x level h p))
    go true true p q = ap (bin_index level) (sym (zero x level h p (eqb-true (magnitude x) 0 q)))
    go true false p q =
        let n = eqb-false (magnitude x) 0 q in
        ap (signed_at (is_negative x)) (sym (index_is level (bin_at level (magnitude x)) h (bin-range level x h F p n).1))
        ∙ ap (bin_index level) (sym (at x level h p n))

-- ---- the index answered is the Data Model's

level-scale : (scale : ℤ) (level : ℕ) → level_answer scale ≡ Some level → scale_of level ≡ scale
unfolding level_answer pick
level-scale scale level e = go (lt_z scale (negsuc 9)) (lt_z (pos 10) scale) refl refl e
  where
    back : (z : ℤ) → lt_z z (negsuc 9) ≡ false → scale_of (nat_abs (z +ℤ pos 10)) ≡ z
    back (pos n) h = sub-add n 10
    back (negsuc n) h =
        rw (le-ltb 10 (suc n) (up n (ltb-false 9 n h))) (
        ap (λ (m : ℕ). pos (10 - suc n) -ℤ pos m) (sym (ten n (ltb-false 9 n h)))
        ∙ sub_more (suc n) (10 - suc n))
      where
        up : (n : ℕ) → n ≤ 9 → suc n ≤ 10
        up n h = omega (arith, h)

        ten : (n : ℕ) → n ≤ 9 → suc n + (10 - suc n) ≡ 10
        ten n h = omega (arith, h)

    absent : {A : Type 0} → None ≡ Some level → A
    absent e = absurd (subst Found (sym e) tt)

    go : (a b : Bool) → lt_z scale (negsuc 9) ≡ a → lt_z (pos 10) scale ≡ b → pick a None (pick b None (Some (nat_abs (scale +ℤ pos 10)))) ≡ Some level → scale_of level ≡ scale
    go true b h g e = absent e
    go false true h g e = absent e
    go false false h g e = ap (λ (n : ℕ). scale_of n) (sym (ap number e)) ∙ back scale h

pub value-is : (x : Float) (scale : ℤ) (level : ℕ) → T (fits binary64 x) → finite x ≡ true → (magnitude x ≡ 0 → ⊥) → level_answer scale ≡ Some level
    → (value_index x scale ≡ X.At (is_negative x) (index_of level (bin_at level (magnitude x)))) × IsIndex scale (magnitude x) (index_of level (bin_at level (magnitude x)))
value-is x scale level F f z e =
    let h : level ≤ finest = subst (λ (a : Option ℕ). number a ≤ finest) e (level-le scale) in (
      from-bin x scale level F e
          ∙ ap (bin_index level) (at x level h f z)
          ∙ ap (signed_at (is_negative x)) (index_is level (bin_at level (magnitude x)) h (bin-range level x h F f z).1),
      subst (λ (s : ℤ). IsIndex s (magnitude x) (index_of level (bin_at level (magnitude x)))) (level-scale scale level e) (is-index level (magnitude x) h (held x F f z)),
    )
