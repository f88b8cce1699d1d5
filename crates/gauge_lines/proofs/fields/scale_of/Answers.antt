-- `gauge_lines::fields::scale_of` meets its contract. Assumes nothing.
use mathlib.Core.Path.{sym, ap, ◌∙◌}
use lib.IntN.{ℤ}
use borrow.Author.Rules.{rules}
use borrow.Author.Tests.{le-leb, lt-leb}
use Rattle.std.specs.Prelude.{Some}
use Rattle.laws.proofs.Bools.{pick_true, pick-false}
use Rattle.gauge_lines.specs.Lines.{scale_in}
use mir.Syntax.{w32}
use mir.Val.{SFits}
use mir.ValLaws.{to_z-of_z}
use Rattle.gauge_lines.proofs.fields.scale_of.Goals as goal

pub returns-in_err-x : goal.returns-in_err-x
returns-in_err-x c = c.from_residual.ensures ∙ sym (ap scale_in c.in_err-x.was)

pub returns-then-x-gt999 : goal.returns-then-x-gt999
returns-then-x-gt999 c = sym (ap scale_in c.in_ok-x.was ∙ pick-false _ _ _ (lt-leb _ 999 c.if-x-gt999.true))

pub returns : goal.returns
returns c =
    let f : SFits w32 c.with_sign.result = search rules in
    ap (λ (z : ℤ). Some z) (to_z-of_z w32 c.with_sign.result f ∙ c.with_sign.ensures)
    ∙ sym (ap scale_in c.in_ok-x.was ∙ pick_true _ _ _ (le-leb _ 999 c.if-x-gt999.false))
