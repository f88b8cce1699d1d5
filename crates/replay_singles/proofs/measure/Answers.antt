-- `replay_singles::measure` meets its contract. Assumes nothing.
use mathlib.Core.Path.{◌∙◌}
use Rattle.replay_singles.proofs.Calls.{measures}
use Rattle.replay_singles.proofs.measure.Goals as goal

pub returns : goal.returns
returns c =
    let a = c.args in
    c.done.ensures
    ∙ measures a.s c.sets.result.now _ c.entries.result.now _ c.order.result.now _ c.values.result.now _
    c.sets.ensures c.entries.ensures c.order.ensures c.values.ensures
    c.aggregation.result c.of_bits.result c.given.result.now _ c.keys.result.now
    c.aggregation.ensures c.of_bits.ensures c.given.ensures c.keys.ensures _ c.measure-reply.ensures
