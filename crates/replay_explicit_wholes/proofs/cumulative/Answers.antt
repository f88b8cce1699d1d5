-- `replay_explicit_wholes::cumulative` meets its contract. Assumes nothing.
use Prim.Native.Nat.{ℕ}
use mathlib.Core.Path.{ap, ◌∙◌}
use lib.ListN.{take}
use Rattle.replay_state.proofs.Same.{stores-are}
use Rattle.replay_explicit.proofs.Calls.{output-is}
use Rattle.replay_explicit_wholes.proofs.Calls.{series-are, lists-cumulative}
use Rattle.replay_explicit_wholes.proofs.cumulative.Goals as goal

pub returns : goal.returns
returns c =
    let a = c.args in
    c.collected.ensures
    ∙ lists-cumulative a.s _ c.bounds_in.result.now _ _ _ _
    (stores-are c.sets_in.ensures c.entries_in.ensures c.order_in.ensures)
    (series-are c.totals_in.ensures c.wholes_in.ensures c.counts_in.ensures)
    c.bounds_in.ensures c.settings.result _ _ c.settings.ensures
    (output-is
    (c.sets.ensures ∙ ap (λ (k : ℕ). take k a.out_sets.now) c.within-i.ensures)
    (c.words.ensures ∙ ap (λ (k : ℕ). take k a.out_words.now) c.within-i.ensures)
    (c.counts.ensures ∙ ap (λ (k : ℕ). take k a.out_pos.now) c.within-j.ensures)
    (c.counts-2.ensures ∙ ap (λ (k : ℕ). take k a.out_neg.now) c.within-j.ensures))
    _ c.cumulative-answer.ensures
