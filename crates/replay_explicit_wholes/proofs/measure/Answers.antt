-- `replay_explicit_wholes::measure` meets its contract. Assumes nothing.
use mathlib.Core.Path.{◌∙◌}
use mir.Syntax.{w64}
use mir.Val.{SFits}
use borrow.Author.Rules.{rules}
use Rattle.integers.proofs.Range.{held}
use Rattle.replay_state.proofs.Same.{stores-are}
use Rattle.replay_explicit_wholes.proofs.Calls.{series-are, measures}
use Rattle.replay_explicit_wholes.proofs.measure.Goals as goal

pub returns : goal.returns
returns c =
    let value-fits : SFits w64 c.of_bits.result = search rules in
    let a = c.args in
    c.done.ensures
    ∙ measures a.s _ c.bounds_in.result.now _ _ _ _
    (stores-are c.sets.ensures c.entries.ensures c.order.ensures)
    (series-are c.totals.ensures c.wholes.ensures c.counts.ensures)
    c.bounds_in.ensures _ c.given.result.now _ c.keys.result.now
    (held c.of_bits.result (value-fits) ∙ c.of_bits.ensures) c.given.ensures c.keys.ensures _ c.measure-reply.ensures
