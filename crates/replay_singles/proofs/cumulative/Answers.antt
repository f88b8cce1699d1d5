-- `replay_singles::cumulative` meets its contract. Assumes nothing.
use Prim.Native.Nat.{ℕ}
use mathlib.Core.Path.{ap, ◌∙◌}
use lib.ListN.{take}
use Rattle.replay_singles.proofs.Calls.{lists-cumulative}
use Rattle.replay_singles.proofs.cumulative.Goals as goal

pub returns : goal.returns
returns c =
    let a = c.args in
    c.collected.ensures
    ∙ lists-cumulative a.s c.sets_in.result.now _ c.entries_in.result.now _ c.order_in.result.now _ c.values_in.result.now _
    c.sets_in.ensures c.entries_in.ensures c.order_in.ensures c.values_in.ensures
    c.settings.result c.sets.result.now _ c.counts.result.now _ c.settings.ensures
    (c.sets.ensures ∙ ap (λ (k : ℕ). take k a.out_sets.now) c.within-i.ensures)
    (c.counts.ensures ∙ ap (λ (k : ℕ). take k a.out_counts.now) c.within-i.ensures) _ c.cumulative-answer.ensures
