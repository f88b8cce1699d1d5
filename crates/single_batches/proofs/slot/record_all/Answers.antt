-- `single_batches::slot::record_all` meets its contract. Assumes nothing.
use mathlib.Core.Path.{◌≡◌, sym, ap, ◌∙◌}
use lib.Ieee.{Float}
use Rattle.refusals.specs.Refusals.{code}
use Rattle.many.specs.Many.{Many, many, each}
use Rattle.singles.specs.Kinds.{holds}
use Rattle.singles.specs.Stores.{held_at}
use Rattle.single_batches.specs.Inner.{stepped}
use Rattle.single_batches.proofs.Slots.{held-sound, ends-none, ends-unsound, ends-put}
use Rattle.single_batches.proofs.slot.record_all.Goals as goal

pub returns-then-run-eq0 : goal.returns-then-run-eq0
returns-then-run-eq0 c =
    let left : Many Float = many c.fold-run.result.taken (code c.fold-run.result.end) c.fold-run.result.held in
    let there : Float = let a = c.args in held_at a.values.now a.x a.updated in
    let left_is : left ≡ each (stepped c.args.aggregation) (there) c.args.list.now = c.fold-run.ensures ∙ ap (λ (y : Float). each (stepped c.args.aggregation) y c.args.list.now) c.held_at-held.ensures in
    let a = c.args in
    ends-none a.aggregation a.x a.updated a.values.now a.list.now (left) (left_is) c.if-run-eq0.true

pub holds_if-requires : goal.holds_if-requires
holds_if-requires c k =
    let a = c.args in
    ap (holds a.aggregation) c.held_at-held.ensures ∙ held-sound a.aggregation a.values.now a.x a.updated (c.requires.known k)

pub returns-then-not-holds_if : goal.returns-then-not-holds_if
returns-then-not-holds_if c =
    let left : Many Float = many c.fold-run.result.taken (code c.fold-run.result.end) c.fold-run.result.held in
    let there : Float = let a = c.args in held_at a.values.now a.x a.updated in
    let left_is : left ≡ each (stepped c.args.aggregation) (there) c.args.list.now = c.fold-run.ensures ∙ ap (λ (y : Float). each (stepped c.args.aggregation) y c.args.list.now) c.held_at-held.ensures in
    let tested : holds c.args.aggregation (there) ≡ c.holds_if.result = sym (c.holds_if.ensures ∙ ap (holds c.args.aggregation) c.held_at-held.ensures) in
    let a = c.args in
    ends-unsound a.aggregation a.x a.updated a.values.now a.list.now (λ t. c.if-run-eq0.false (ap (λ (m : Many Float). m.taken) (left_is) ∙ t))
    (tested ∙ c.if-not-holds_if.true)

pub returns : goal.returns
returns c =
    let there : Float = let a = c.args in held_at a.values.now a.x a.updated in
    let tested : holds c.args.aggregation (there) ≡ c.holds_if.result = sym (c.holds_if.ensures ∙ ap (holds c.args.aggregation) c.held_at-held.ensures) in
    let left : Many Float = many c.fold-run.result.taken (code c.fold-run.result.end) c.fold-run.result.held in
    let left_is : left ≡ each (stepped c.args.aggregation) (there) c.args.list.now = c.fold-run.ensures ∙ ap (λ (y : Float). each (stepped c.args.aggregation) y c.args.list.now) c.held_at-held.ensures in
    let a = c.args in
    ends-put a.aggregation a.x a.updated a.values.now c.requires.x_in_bounds (tested ∙ c.if-not-holds_if.false)
    a.list.now (left) (left_is) c.if-run-eq0.false
