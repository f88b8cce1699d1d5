-- `exponential_batches::slot::keep` meets its contract. Assumes nothing.
use mathlib.Core.Path.{sym, ap, ◌∙◌}
use lib.ListN.{set}
use Rattle.many.proofs.Alike.{pick_first, pick_second}
use Rattle.exponential_slots.specs.Cells.{words_of}
use Rattle.exponential_batches.specs.Slot.{extremes_of}
use Rattle.exponential_batches.proofs.slot.keep.Goals as goal

pub returns-then-run-eq0 : goal.returns-then-run-eq0
returns-then-run-eq0 c =
    let a = c.args in
    let h = a.run.head in record { figures_after = sym (pick_first a.run.taken c.if-run-eq0.true a.figures.now (set a.figures.now a.x (words_of h.counts))); extremes_after = sym (pick_first a.run.taken c.if-run-eq0.true a.extremes.now (set a.extremes.now a.x (extremes_of h))) }

pub returns : goal.returns
returns c =
    let a = c.args in
    let h = a.run.head in record { figures_after = ap (set a.figures.now a.x) c.words_of.ensures ∙ sym (pick_second a.run.taken c.if-run-eq0.false a.figures.now (set a.figures.now a.x (words_of h.counts))); extremes_after = sym (pick_second a.run.taken c.if-run-eq0.false a.extremes.now (set a.extremes.now a.x (extremes_of h))) }
