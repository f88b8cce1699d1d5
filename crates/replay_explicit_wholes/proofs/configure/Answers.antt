-- `replay_explicit_wholes::configure` meets its contract. Assumes nothing.
use mathlib.Core.Path.{◌∙◌}
use Rattle.replay_state.proofs.Same.{stores-are}
use Rattle.replay_explicit_wholes.proofs.Calls.{series-are, configures}
use Rattle.replay_explicit_wholes.proofs.configure.Goals as goal

pub returns : goal.returns
returns c =
    let a = c.args in
    c.configured.ensures
    ∙ configures a.s _ c.bounds_in.result.now _ _ _ _
    (stores-are c.sets_in.ensures c.entries.ensures c.order_in.ensures)
    (series-are c.totals_in.ensures c.wholes_in.ensures c.counts_in.ensures)
    c.keys.result.now c.bounds_in.ensures c.keys.ensures _ c.configure-reply.ensures
