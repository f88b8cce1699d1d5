-- `gauge_lines::fields::letter_in` meets its contract. Assumes nothing.
use mathlib.Core.Path.{sym, ◌∙◌}
use borrow.Author.Tests.{eq-eqb, ne_eqb}
use Rattle.laws.proofs.Bools.{pick_true, pick-false}
use Rattle.gauge_lines.specs.Lines.{letter_of}
use Rattle.gauge_lines.proofs.fields.letter_in.Goals as goal

pub returns-then-byte_at-ne32 : goal.returns-then-byte_at-ne32
unfolding letter_of
returns-then-byte_at-ne32 c = sym (pick-false _ _ _ (ne_eqb _ 32 (λ e. c.if-byte_at-ne32.true (c.byte_at.ensures ∙ e))))

pub returns : goal.returns
unfolding letter_of
returns c =
    c.byte_at-2.ensures ∙ sym (pick_true _ _ _ (eq-eqb _ 32 (sym c.byte_at.ensures ∙ c.if-byte_at-ne32.false)))
