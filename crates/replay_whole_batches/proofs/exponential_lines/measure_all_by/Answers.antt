-- `replay_whole_batches::exponential_lines::measure_all_by` meets its contract. Assumes nothing.
use mathlib.Core.Path.{◌∙◌}
use Rattle.whole_map.specs.Exponential.{exponential_wholes}
use Rattle.replay_state.proofs.Same.{stores-are}
use Rattle.replay_exponential_wholes.proofs.Calls.{same-cells}
use Rattle.replay_batches.proofs.Calls.{takes-all-by}
use Rattle.replay_whole_batches.proofs.exponential_lines.measure_all_by.Goals as goal

pub returns : goal.returns
returns c =
    let a = c.args in
    c.batched.ensures
    ∙ takes-all-by (exponential_wholes a.s.size a.s.top a.s.sums) a.s _ _ _ _ _ _ (stores-are c.sets.ensures c.entries.ensures c.order.ensures)
    (same-cells c.figures.ensures c.wholes.ensures c.counts.ensures c.counts-2.ensures) c.integers_in.ensures
    _ c.measure_all_by-reply.ensures
