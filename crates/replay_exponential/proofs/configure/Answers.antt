-- `replay_exponential::configure` meets its contract. Assumes nothing.
use mathlib.Core.Path.{◌∙◌}
use mir.Syntax.{w32}
use mir.Val.{SFits}
use mir.ValLaws.{to_z-of_z}
use borrow.Author.Rules.{rules}
use Rattle.replay_state.proofs.Same.{stores-are}
use Rattle.replay_exponential.proofs.Calls.{same-cells, configures}
use Rattle.replay_exponential.proofs.configure.Goals as goal

pub returns : goal.returns
returns c =
    let a = c.args in
    let h : SFits w32 c.scale_of.result = search rules in
    c.configured.ensures
    ∙ configures a.s _ _ _ _ (stores-are c.sets_in.ensures c.entries.ensures c.order_in.ensures)
    (same-cells c.figures_in.ensures c.extremes_in.ensures c.counts_in.ensures c.counts_in-2.ensures)
    c.cut.result _ c.keys.result.now c.cut.ensures
    (to_z-of_z w32 c.scale_of.result h ∙ c.scale_of.ensures) c.keys.ensures _ c.configure-reply.ensures
