-- `replay_explicit::measure_by` meets its contract. Assumes nothing.
use mathlib.Core.Path.{◌∙◌}
use Rattle.replay_state.proofs.Same.{stores-are}
use Rattle.replay_explicit.proofs.Calls.{series-are, measures-by}
use Rattle.replay_explicit.proofs.measure_by.Goals as goal

pub returns : goal.returns
returns c =
    let a = c.args in
    c.done.ensures
    ∙ measures-by a.s _ c.bounds_in.result.now _ _ _ _
    (stores-are c.sets.ensures c.entries.ensures c.order.ensures)
    (series-are c.totals.ensures c.extremes.ensures c.counts.ensures)
    c.bounds_in.ensures c.of_bits.result c.of_bits.ensures _ c.measure_by-reply.ensures
