-- `replay_singles::delta` meets its contract. Assumes nothing.
use Prim.Native.Nat.{ℕ}
use mathlib.Core.Path.{ap, ◌∙◌}
use lib.ListN.{take}
use Rattle.replay_singles.proofs.Calls.{lists_delta}
use Rattle.replay_singles.proofs.delta.Goals as goal

pub returns : goal.returns
returns c =
    let a = c.args in
    c.collected.ensures
    ∙ lists_delta a.s c.sets.result.now _ c.entries.result.now _ c.order.result.now _ c.values_in.result.now _
    c.sets.ensures c.entries.ensures c.order.ensures c.values_in.ensures
    c.settings.result c.sets-2.result.now _ c.counts.result.now _ c.settings.ensures
    (c.sets-2.ensures ∙ ap (λ (k : ℕ). take k a.out_sets.now) c.within-i.ensures)
    (c.counts.ensures ∙ ap (λ (k : ℕ). take k a.out_counts.now) c.within-i.ensures) _ c.delta-reply.ensures
