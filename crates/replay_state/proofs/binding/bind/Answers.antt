-- `replay_state::binding::bind` meets its contract. Assumes nothing.
use mathlib.Core.Path.{◌∙◌}
use borrow.Author.Tests.{eq-eqb, ne_eqb}
use Rattle.replay_state.proofs.Binds.{binds, releases}
use Rattle.replay_state.proofs.binding.bind.Goals as goal

pub returns-then-s-eq98 : goal.returns-then-s-eq98
returns-then-s-eq98 c =
    let a = c.args in
    c.done.ensures
    ∙ binds a.s c.sets.result.now _ c.entries.result.now _ c.order.result.now _
    c.sets.ensures c.entries.ensures c.order.ensures
    c.given.result.now _ c.keys.result.now c.given.ensures c.keys.ensures (eq-eqb _ _ c.if-s-eq98.true) _ c.bind-reply.ensures

pub returns : goal.returns
returns c =
    let a = c.args in
    c.done-2.ensures
    ∙ releases a.s c.sets_in.result.now _ c.entries-2.result.now _ c.order_in.result.now _
    c.sets_in.ensures c.entries-2.ensures c.order_in.ensures
    _ (ne_eqb _ _ c.if-s-eq98.false) _ c.release-reply.ensures
