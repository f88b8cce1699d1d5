-- `singles::slot::record` meets its contract. Assumes nothing.
use mathlib.Core.Path.{◌≡◌, sym, ap, ◌∙◌}
use lib.ListN.{set}
use lib.Ieee.{Float}
use Rattle.rows.specs.Recording.{after}
use Rattle.singles.specs.Kinds.{step, holds}
use Rattle.singles.specs.Stores.{held_at}
use Rattle.singles.proofs.Owes.{held_bad, held-good}
use Rattle.singles.proofs.slot.record.Goals as goal

pub returns-then-not-holds : goal.returns-then-not-holds
returns-then-not-holds c =
    let tested : holds c.args.aggregation (held_at c.args.values.now c.args.x c.args.updated) ≡ c.holds.result = sym (c.holds.ensures ∙ ap (holds c.args.aggregation) c.held_at-held.ensures) in
    let a = c.args in
    held_bad a.aggregation a.values.now a.x a.updated a.v (tested ∙ c.if-not-holds.true)

pub returns : goal.returns
returns c =
    let tested : holds c.args.aggregation (held_at c.args.values.now c.args.x c.args.updated) ≡ c.holds.result = sym (c.holds.ensures ∙ ap (holds c.args.aggregation) c.held_at-held.ensures) in
    let a = c.args in
    ap (λ (y : Float). after 0 (set a.values.now a.x y)) (c.stepped.ensures ∙ ap (λ (y : Float). step a.aggregation y a.v) c.held_at-held.ensures)
    ∙ held-good a.aggregation a.values.now a.x a.updated a.v (tested ∙ c.if-not-holds.false)
