-- `pooling::entries::bounded_integer` meets its contract. Assumes nothing.
use mathlib.Core.Path.{sym, ◌∙◌}
use Rattle.pooling.proofs.Integers.{integer_in, integer-out}
use Rattle.pooling.proofs.entries.bounded_integer.Goals as goal

pub returns-then-lie : goal.returns-then-lie
returns-then-lie c =
    let a = c.args in
    integer_in a.many a.found c.in-Some.e c.in-Some.is (sym c.lie.ensures ∙ c.if-lie.true)

pub returns-else-lie : goal.returns-else-lie
returns-else-lie c =
    let a = c.args in
    integer-out a.many a.found c.in-Some.e c.in-Some.is (sym c.lie.ensures ∙ c.if-lie.false)
