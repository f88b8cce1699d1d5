-- `replay_exponential::measure_by` meets its contract. Assumes nothing.
use mathlib.Core.Path.{◌∙◌}
use Rattle.replay_state.proofs.Same.{stores-are}
use Rattle.replay_exponential.proofs.Calls.{same-cells, measures-by}
use Rattle.replay_exponential.proofs.measure_by.Goals as goal

pub returns : goal.returns
returns c =
    let a = c.args in
    c.done.ensures
    ∙ measures-by a.s _ _ _ _ (stores-are c.sets.ensures c.entries.ensures c.order.ensures)
    (same-cells c.figures.ensures c.extremes.ensures c.counts.ensures c.counts-2.ensures)
    c.of_bits.result c.of_bits.ensures _ c.measure_by-reply.ensures
