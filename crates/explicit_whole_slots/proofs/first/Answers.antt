-- `first` meets its contract. Assumes nothing.
use mathlib.Core.Path.{ap, ◌∙◌}
use Rattle.integers.proofs.Range.{held}
use Rattle.refusals.specs.Refusals.{said}
use Rattle.explicit_wholes.specs.Series.{recording}
use Rattle.explicit_whole_slots.proofs.Enters.{first-never, first_law}
use Rattle.explicit_whole_slots.proofs.first.Goals as goal

pub returns-in_err-head : goal.returns-in_err-head
returns-in_err-head c =
    let a = c.args in
    absurd (first-never a.bounds.now a.sums a.counts.now c.requires (said c.fresh.result) c.fresh.new.counts c.fresh.ensures _ (ap said c.in_err-head.was))

pub returns : goal.returns
returns c =
    let a = c.args in
    c.«record».ensures
    ∙ ap (recording a.bounds.now a.sums c.in_ok-head.head c.fresh.new.counts) (held a.v c.ranges.v)
    ∙ first_law a.bounds.now a.sums a.counts.now c.requires (said c.fresh.result) c.fresh.new.counts c.fresh.ensures _ a.v (ap said c.in_ok-head.was)
