-- `replay_batches::single_lines::measure_all` meets its contract. Assumes nothing.
use mathlib.Core.Path.{◌∙◌}
use Rattle.singles.specs.Stores.{single_store}
use Rattle.replay_state.proofs.Same.{stores-are}
use Rattle.replay_singles.specs.Followed.{kind_of}
use Rattle.replay_batches.proofs.Calls.{takes_all, of_aggregation}
use Rattle.replay_batches.proofs.single_lines.measure_all.Goals as goal

pub returns : goal.returns
returns c =
    let a = c.args in
    c.batched.ensures
    ∙ takes_all (single_store (kind_of a.s)) a.s _ _ _ _ _ _ (stores-are c.sets.ensures c.entries.ensures c.order.ensures)
    c.values.ensures c.floats_in.ensures
    c.given.result.now _ c.keys.result.now c.given.ensures c.keys.ensures _ (c.measure_all-reply.ensures ∙ of_aggregation c.aggregation.ensures _ _ _ _ _)
