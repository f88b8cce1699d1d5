-- `enter` meets its contract. Assumes nothing.
use mathlib.Core.Path.{sym, ap, ◌∙◌}
use Rattle.integers.proofs.Range.{held}
use Rattle.explicit_wholes.specs.Series.{recording}
use Rattle.explicit_whole_slots.specs.Cells.{begun}
use Rattle.explicit_whole_slots.proofs.Enters.{enters-held, enters_bad, enters-first}
use Rattle.explicit_whole_slots.proofs.enter.Goals as goal

pub returns-then-updated : goal.returns-then-updated
returns-then-updated c =
    let a = c.args in
    c.«record».ensures
    ∙ ap (recording a.bounds.now a.sums a.head a.counts.now) (held a.v c.ranges.v)
    ∙ sym (enters-held a.bounds.now a.sums a.updated a.head a.counts.now a.v c.if-updated.true)

pub returns-then-not-bounds_pass : goal.returns-then-not-bounds_pass
returns-then-not-bounds_pass c =
    let a = c.args in
    sym (enters_bad a.bounds.now a.sums a.updated a.head a.counts.now a.v c.if-updated.false (sym c.bounds_pass.ensures ∙ c.if-not-bounds_pass.true))

pub returns : goal.returns
returns c =
    let a = c.args in
    c.first.ensures
    ∙ ap (begun a.bounds.now a.sums a.counts.now) (held a.v c.ranges.v)
    ∙ sym (enters-first a.bounds.now a.sums a.updated a.head a.counts.now a.v c.if-updated.false (sym c.bounds_pass.ensures ∙ c.if-not-bounds_pass.false))
