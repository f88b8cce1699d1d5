-- `replay_batches::exponential_lines::measure_all` meets its contract. Assumes nothing.
use mathlib.Core.Path.{◌∙◌}
use Rattle.value_map.specs.Exponential.{exponential_store}
use Rattle.replay_state.proofs.Same.{stores-are}
use Rattle.replay_exponential.proofs.Calls.{same-cells}
use Rattle.replay_batches.proofs.Calls.{takes_all}
use Rattle.replay_batches.proofs.exponential_lines.measure_all.Goals as goal

pub returns : goal.returns
returns c =
    let a = c.args in
    c.batched.ensures
    ∙ takes_all (exponential_store a.s.size a.s.top) a.s _ _ _ _ _ _ (stores-are c.sets.ensures c.entries.ensures c.order.ensures)
    (same-cells c.figures.ensures c.extremes.ensures c.counts.ensures c.counts-2.ensures) c.floats_in.ensures
    c.given.result.now _ c.keys.result.now c.given.ensures c.keys.ensures _ c.measure_all-reply.ensures
