-- `replay_singles::configure` meets its contract. Assumes nothing.
use mathlib.Core.Path.{◌∙◌}
use Rattle.replay_singles.proofs.Calls.{configures}
use Rattle.replay_singles.proofs.configure.Goals as goal

pub returns : goal.returns
returns c =
    let a = c.args in
    c.configured.ensures
    ∙ configures a.s c.sets_in.result.now _ c.entries.result.now _ c.order_in.result.now _ c.values_in.result.now _
    c.sets_in.ensures c.entries.ensures c.order_in.ensures c.values_in.ensures
    c.aggregation.result c.keys.result.now c.aggregation.ensures c.keys.ensures _ c.configure-reply.ensures
