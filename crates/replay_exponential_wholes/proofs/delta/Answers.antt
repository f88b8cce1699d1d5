-- `replay_exponential_wholes::delta` meets its contract. Assumes nothing.
use Prim.Native.Nat.{ℕ}
use mathlib.Core.Path.{ap, ◌∙◌}
use lib.ListN.{take}
use Rattle.replay_state.proofs.Same.{stores-are}
use Rattle.replay_exponential.proofs.Calls.{same-output}
use Rattle.replay_exponential_wholes.proofs.Calls.{same-cells, lists_delta}
use Rattle.replay_exponential_wholes.proofs.delta.Goals as goal

pub returns : goal.returns
returns c =
    let a = c.args in
    c.collected.ensures
    ∙ lists_delta a.s _ _ _ _ (stores-are c.sets.ensures c.entries.ensures c.order.ensures)
    (same-cells c.figures_in.ensures c.wholes_in.ensures c.counts_in.ensures c.counts_in-2.ensures)
    c.settings.result c.settings.ensures _ _
    (same-output (c.sets-2.ensures ∙ ap (λ (k : ℕ). take k a.out_sets.now) c.within-i.ensures)
    (c.words.ensures ∙ ap (λ (k : ℕ). take k a.out_words.now) c.within-i.ensures)
    (c.counts.ensures ∙ ap (λ (k : ℕ). take k a.out_pos.now) c.within-j.ensures)
    (c.counts-2.ensures ∙ ap (λ (k : ℕ). take k a.out_neg.now) c.within-j.ensures)) _ c.delta-reply.ensures
