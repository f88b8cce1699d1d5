-- `replay_batches::single_lines::measure_all_by` meets its contract. Assumes nothing.
use mathlib.Core.Path.{◌∙◌}
use Rattle.singles.specs.Stores.{single_store}
use Rattle.replay_state.proofs.Same.{stores-are}
use Rattle.replay_singles.specs.Followed.{kind_of}
use Rattle.replay_batches.proofs.Calls.{takes-all-by, of_aggregation-by}
use Rattle.replay_batches.proofs.single_lines.measure_all_by.Goals as goal

pub returns : goal.returns
returns c =
    let a = c.args in
    c.batched.ensures
    ∙ takes-all-by (single_store (kind_of a.s)) a.s _ _ _ _ _ _ (stores-are c.sets.ensures c.entries.ensures c.order.ensures)
    c.values.ensures c.floats_in.ensures
    _ (c.measure_all_by-reply.ensures ∙ of_aggregation-by c.aggregation.ensures _ _ _ _)
