-- `replay_explicit::measure` meets its contract. Assumes nothing.
use mathlib.Core.Path.{◌∙◌}
use Rattle.replay_state.proofs.Same.{stores-are}
use Rattle.replay_explicit.proofs.Calls.{series-are, measures}
use Rattle.replay_explicit.proofs.measure.Goals as goal

pub returns : goal.returns
returns c =
    let a = c.args in
    c.done.ensures
    ∙ measures a.s _ c.bounds_in.result.now _ _ _ _
    (stores-are c.sets.ensures c.entries.ensures c.order.ensures)
    (series-are c.totals.ensures c.extremes.ensures c.counts.ensures)
    c.bounds_in.ensures c.of_bits.result c.given.result.now _ c.keys.result.now
    c.of_bits.ensures c.given.ensures c.keys.ensures _ c.measure-reply.ensures
