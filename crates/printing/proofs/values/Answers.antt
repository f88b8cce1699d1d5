-- `printing::values` meets its contract: what waits in the end is what the points left give from here. Assumes nothing.
use mathlib.Core.Path.{sym, ◌∙◌}
use native.Mathlib.Omega.{arith}
use Rattle.lines.specs.Gathered.{waiting}
use Rattle.lines.proofs.Gathering.{then}
use Rattle.printing.specs.Printed.{collection_head, value_lines}
use Rattle.printing.proofs.Singles.{values-start, values-turn, values-end}
use Rattle.printing.proofs.values.Goals as goal

pub head-m-requires : goal.head-m-requires
head-m-requires c = tt

pub loop-i-init : goal.loop-i-init
loop-i-init c =
    let a = c.args in
    (values-start a.many a.sets.now a.values.now _)

pub value-m-requires : goal.value-m-requires
value-m-requires c = tt

pub loop-i-preserved : goal.loop-i-preserved
loop-i-preserved c =
    let l = c.loop-i in
    let a = c.args in
    values-turn a.many l.i a.sets.now a.values.now _ (omega arith) c.value-m.ensures ∙ l.invariant

pub returns : goal.returns
unfolding value_lines
returns c =
    let l = c.loop-i in
    let a = c.args in
    then (collection_head a.start a.time a.many) _ (waiting a.n a.text.now) c.head-m.ensures
    (sym (values-end a.many l.i a.sets.now a.values.now _ (omega arith)) ∙ l.invariant)
