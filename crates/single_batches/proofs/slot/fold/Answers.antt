-- `single_batches::slot::fold` meets its contract: what is held so far, and the values left, make the whole. Assumes nothing.
use mathlib.Core.Path.{refl, sym, ap, ◌∙◌}
use native.Mathlib.Omega.{arith}
use lib.ListN.{get_or}
use lib.Ieee.{Float, nan}
use Rattle.rows.specs.Recording.{after}
use Rattle.many.proofs.Turns.{begins, turn, halt, through}
use Rattle.single_batches.specs.Inner.{stepped}
use Rattle.single_batches.proofs.Slots.{step-on, step-off}
use Rattle.single_batches.proofs.slot.fold.Goals as goal

pub loop-i-init : goal.loop-i-init
loop-i-init c = let a = c.args in begins (stepped a.aggregation) a.held a.list.now

pub returns-then-not-takes : goal.returns-then-not-takes
returns-then-not-takes c =
    let value : Float = get_or c.args.list.now c.loop-i.i nan in
    let l = c.loop-i in
    let a = c.args in
    sym (l.invariant ∙ halt (stepped a.aggregation) l.y a.list.now l.i nan c.loop-i-test.true (after 6 l.y)
    (step-off a.aggregation l.y (value) (sym c.takes.ensures ∙ c.if-not-takes.true)) (λ z. omega (arith, z)))

pub loop-i-preserved : goal.loop-i-preserved
loop-i-preserved c =
    let value : Float = get_or c.args.list.now c.loop-i.i nan in
    let l = c.loop-i in
    let a = c.args in
    l.invariant ∙ turn (stepped a.aggregation) l.y a.list.now l.i nan c.loop-i-test.true (after 0 c.stepped-y.result)
    (ap (λ (y : Float). after 0 y) c.stepped-y.ensures ∙ step-on a.aggregation l.y (value) (sym c.takes.ensures ∙ c.if-not-takes.false)) refl

pub returns : goal.returns
returns c =
    let l = c.loop-i in
    let a = c.args in
    sym (l.invariant ∙ through (stepped a.aggregation) l.y a.list.now l.i (omega (arith, c.loop-i-test.false, l.auto.i-end)))
