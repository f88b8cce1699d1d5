-- `replay_batches::explicit_lines::measure_all` meets its contract. Assumes nothing.
use mathlib.Core.Path.{◌∙◌}
use Rattle.value_map.specs.Explicit.{explicit_store}
use Rattle.replay_state.proofs.Same.{stores-are}
use Rattle.replay_explicit.specs.Followed.{bounds_in}
use Rattle.replay_explicit.proofs.Calls.{series-are}
use Rattle.replay_batches.proofs.Calls.{takes_all, of-bounds}
use Rattle.replay_batches.proofs.explicit_lines.measure_all.Goals as goal

pub returns : goal.returns
returns c =
    let a = c.args in
    c.batched.ensures
    ∙ takes_all (explicit_store (bounds_in a.s a.bounds.now)) a.s _ _ _ _ _ _ (stores-are c.sets.ensures c.entries.ensures c.order.ensures)
    (series-are c.totals.ensures c.extremes.ensures c.counts.ensures) c.floats_in.ensures
    c.given.result.now _ c.keys.result.now c.given.ensures c.keys.ensures _ (c.measure_all-reply.ensures ∙ of-bounds c.bounds_in.ensures _ _ _ _ _)
