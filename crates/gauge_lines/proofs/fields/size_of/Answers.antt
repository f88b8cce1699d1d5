-- `gauge_lines::fields::size_of` meets its contract. Assumes nothing.
use mathlib.Core.Path.{sym, ap, ◌∙◌}
use borrow.Author.Tests.{le-leb, lt-leb}
use Rattle.laws.proofs.Bools.{pick_true, pick-false}
use Rattle.gauge_lines.specs.Lines.{size_in}
use Rattle.gauge_lines.proofs.fields.size_of.Goals as goal

pub returns-in_err-x : goal.returns-in_err-x
returns-in_err-x c = c.from_residual.ensures ∙ sym (ap size_in c.in_err-x.was)

pub returns-then-x-gt999 : goal.returns-then-x-gt999
returns-then-x-gt999 c = sym (ap size_in c.in_ok-x.was ∙ pick-false _ _ _ (lt-leb _ 999 c.if-x-gt999.true))

pub returns : goal.returns
returns c = sym (ap size_in c.in_ok-x.was ∙ pick_true _ _ _ (le-leb _ 999 c.if-x-gt999.false))
