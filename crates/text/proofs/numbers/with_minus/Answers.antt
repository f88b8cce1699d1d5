-- `text::numbers::with_minus` meets its contract. Assumes nothing.
use Rattle.std.proofs.Common.{sym, ap, ◌∙◌, eq-eqb, ne_eqb}
use Rattle.laws.proofs.Bools.{pick_true, pick-false}
use Rattle.text.specs.Numbers.{with_minus}
use Rattle.text.proofs.numbers.with_minus.Goals as goal

pub returns-in_err-size : goal.returns-in_err-size
returns-in_err-size c = c.from_residual.ensures ∙ sym (ap with_minus c.in_err-size.was)

pub returns-then-size-eq0 : goal.returns-then-size-eq0
returns-then-size-eq0 c = sym (ap with_minus c.in_ok-size.was ∙ pick_true _ _ _ (eq-eqb _ 0 c.if-size-eq0.true))

pub returns : goal.returns
returns c = sym (ap with_minus c.in_ok-size.was ∙ pick-false _ _ _ (ne_eqb _ 0 c.if-size-eq0.false))
