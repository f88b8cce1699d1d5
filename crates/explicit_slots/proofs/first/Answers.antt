-- `explicit_slots::first` meets its contract. Assumes nothing.
use mathlib.Core.Path.{ap, ◌∙◌}
use Rattle.refusals.specs.Refusals.{said}
use Rattle.explicit_slots.proofs.Enters.{first-never, first_law}
use Rattle.explicit_slots.proofs.first.Goals as goal

pub returns-in_err-head : goal.returns-in_err-head
returns-in_err-head c =
    let a = c.args in
    absurd (first-never a.bounds.now a.counts.now c.requires (said c.fresh.result) c.fresh.new.counts c.fresh.ensures _ (ap said c.in_err-head.was))

pub returns : goal.returns
returns c =
    let a = c.args in
    c.«record».ensures
    ∙ first_law a.bounds.now a.counts.now c.requires (said c.fresh.result) c.fresh.new.counts c.fresh.ensures _ a.v (ap said c.in_ok-head.was)
