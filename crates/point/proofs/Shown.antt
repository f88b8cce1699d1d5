-- An exponential point that agrees shows its scale and both offsets: no answer is the one for none. Assumes nothing.
use Prim.Native.Nat.{ℕ, ◌-◌, ◌≤◌, ◌<◌}
use mathlib.Core.Path.{◌≡◌, ap, sym, subst, ◌∙◌}
use mathlib.Core.Logic.{⊎_elim}
use mathlib.Core.Bool.{true, false}
use mathlib.Core.List.{List}
use native.Mathlib.Nat.{eq-zero-or-pos}
use native.Mathlib.Omega.{arith}
use lib.Dec.{eqb}
use lib.ListN.{length}
use lib.Seq.{length-take-le}
use lib.IntN.{ℤ, pos}
use borrow.Author.Tests.{eq-eqb, ne_eqb}
use Rattle.laws.specs.Pick.{pick}
use Rattle.laws.proofs.Bools.{and_left}
use Rattle.index.specs.Bins.{finest, end_bin, scale_of, index_of}
use Rattle.std.specs.Prelude.{Some}
use Rattle.index.proofs.SignedCases.{scale-is, index_is}
use Rattle.points.proofs.Agreement.{RowOk}
use Rattle.rows.specs.declared.Row.{Row}
use Rattle.exponential.specs.declared.Counts.{Counts}
use Rattle.exponential.specs.Series.{row_in}
use Rattle.exponential.proofs.Facts as Facts
use Rattle.point.specs.declared.Figures.TheVariants.{Exponential}
use Rattle.point.specs.Handing.{Stored}
use Rattle.point.specs.Inner.{figures_agree, extremes_ok, point_agrees}
use Rattle.point.specs.Signed.{scale_shown, offset_answer, offset_shown}
use Rattle.point.proofs.Offsets.{offset-empty, offset-there}

-- the offset of a row: the index of its first bin; "an empty row has offset 0"
abbrev pub offset_of : ℕ → Row → ℤ
offset_of level r = pick (eqb r.len 0) (pos 0) (index_of level r.start)

shown : (level : ℕ) (r : Row) → level ≤ finest → (0 < r.len → r.start < end_bin level) → offset_answer level r ≡ Some (offset_of level r)
unfolding pick
shown level r l b =
    ⊎_elim
    (λ (z : r.len ≡ 0). offset-empty level r z ∙ (λ j. Some (pick (sym (eq-eqb r.len 0 z) j) (pos 0) (index_of level r.start))))
    (λ (p : 0 < r.len).
    let n : (r.len ≡ 0 → ⊥) = λ z. omega (arith, z) in
    offset-there level r n ∙ index_is level r.start l (b p) ∙ (λ j. Some (pick (sym (ne_eqb r.len 0 n) j) (pos 0) (index_of level r.start))))
    (eq-zero-or-pos r.len)

-- a row that agrees starts at a bin of the level
starts : (size low end : ℕ) (r : Row) (xs : List ℕ) → r.len ≤ length xs → RowOk size low end (row_in r xs) → 0 < r.len → r.start < end
starts size low end r xs l k p = omega (arith, k.below, length-take-le r.len xs l)

module _ (size : ℕ) (x : Stored) (c : Counts) (f : x.point.figures ≡ Exponential c) (a : point_agrees size x ≡ true) where
  known : Facts.Agreed size finest c x.pos x.neg
  unfolding point_agrees
  known =
      Facts.agreed size finest c x.pos x.neg
      (ap (λ h. figures_agree size h x.bounds x.pos x.neg) (sym f)
      ∙ and_left (figures_agree size x.point.figures x.bounds x.pos x.neg) (extremes_ok x.point) a)

  level-is : finest - (finest - c.level) ≡ c.level
  level-is = omega (arith, known.level)

  -- THE SCALE, from -10 to 10
  pub scale-there : scale_shown x.point.figures ≡ Some (scale_of c.level)
  scale-there = ap scale_shown f ∙ scale-is c.level known.level

  -- BOTH OFFSETS
  pub pos-there : offset_shown false x.point.figures ≡ Some (offset_of c.level c.pos)
  unfolding pick
  pos-there =
      ap (offset_shown false) f
      ∙ shown c.level c.pos known.level
      (λ h. subst (λ (l : ℕ). c.pos.start < end_bin l) level-is (starts size _ _ c.pos x.pos known.pos_there known.point.pos h))

  pub neg-there : offset_shown true x.point.figures ≡ Some (offset_of c.level c.neg)
  unfolding pick
  neg-there =
      ap (offset_shown true) f
      ∙ shown c.level c.neg known.level
      (λ h. subst (λ (l : ℕ). c.neg.start < end_bin l) level-is (starts size _ _ c.neg x.neg known.neg_there known.point.neg h))
