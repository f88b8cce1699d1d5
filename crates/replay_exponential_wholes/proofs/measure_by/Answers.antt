-- `replay_exponential_wholes::measure_by` meets its contract. Assumes nothing.
use mathlib.Core.Path.{◌∙◌}
use mir.Syntax.{w64}
use mir.Val.{SFits}
use borrow.Author.Rules.{rules}
use Rattle.integers.proofs.Range.{held}
use Rattle.replay_state.proofs.Same.{stores-are}
use Rattle.replay_exponential_wholes.proofs.Calls.{same-cells, measures-by}
use Rattle.replay_exponential_wholes.proofs.measure_by.Goals as goal

pub returns : goal.returns
returns c =
    let value-fits : SFits w64 c.of_bits.result = search rules in
    let a = c.args in
    c.done.ensures
    ∙ measures-by a.s _ _ _ _ (stores-are c.sets.ensures c.entries.ensures c.order.ensures)
    (same-cells c.figures.ensures c.wholes.ensures c.counts.ensures c.counts-2.ensures)
    _ (held c.of_bits.result (value-fits) ∙ c.of_bits.ensures) _ c.measure_by-reply.ensures
