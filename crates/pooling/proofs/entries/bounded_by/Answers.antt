-- `pooling::entries::bounded_by` meets its contract. Assumes nothing.
use mathlib.Core.Path.{sym, ◌∙◌}
use Rattle.pooling.proofs.Whole.{bounded_in, bounded-out}
use Rattle.pooling.proofs.entries.bounded_by.Goals as goal

pub returns-then-lie : goal.returns-then-lie
returns-then-lie c =
    let a = c.args in
    bounded_in a.many a.found c.in-Some.e c.in-Some.is (sym c.lie.ensures ∙ c.if-lie.true)

pub returns-else-lie : goal.returns-else-lie
returns-else-lie c =
    let a = c.args in
    bounded-out a.many a.found c.in-Some.e c.in-Some.is (sym c.lie.ensures ∙ c.if-lie.false)
