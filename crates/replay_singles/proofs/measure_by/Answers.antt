-- `replay_singles::measure_by` meets its contract. Assumes nothing.
use mathlib.Core.Path.{◌∙◌}
use Rattle.replay_singles.proofs.Calls.{measures-by}
use Rattle.replay_singles.proofs.measure_by.Goals as goal

pub returns : goal.returns
returns c =
    let a = c.args in
    c.done.ensures
    ∙ measures-by a.s c.sets.result.now _ c.entries.result.now _ c.order.result.now _ c.values.result.now _
    c.sets.ensures c.entries.ensures c.order.ensures c.values.ensures
    c.aggregation.result c.of_bits.result c.aggregation.ensures c.of_bits.ensures _ c.measure_by-reply.ensures
