-- `gauge_lines::fields::time_in` meets its contract. Assumes nothing.
use mathlib.Core.Path.{sym, ◌∙◌}
use borrow.Author.Tests.{eq-eqb, ne_eqb}
use Rattle.laws.proofs.Bools.{pick_true, pick-false}
use Rattle.gauge_lines.specs.Lines.{time_of}
use Rattle.gauge_lines.proofs.fields.time_in.Goals as goal

pub returns-then-spaces-ne1 : goal.returns-then-spaces-ne1
unfolding time_of
returns-then-spaces-ne1 c = sym (pick-false _ _ _ (ne_eqb _ 1 (λ e. c.if-spaces-ne1.true (c.spaces.ensures ∙ e))))

pub returns : goal.returns
unfolding time_of
returns c =
    c.decimal_at.ensures ∙ sym (pick_true _ _ _ (eq-eqb _ 1 (sym c.spaces.ensures ∙ c.if-spaces-ne1.false)))
