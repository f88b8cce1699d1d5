-- `slot::keep` meets its contract. Assumes nothing.
use borrow.Author.Rules.{rules}
use mathlib.Core.Path.{sym, ap, ◌∙◌}
use mathlib.Core.List.{[], ◌∷◌}
use lib.ListN.{set}
use mir.Syntax.{w64}
use mir.Val.{SFits}
use Rattle.integers.proofs.Range.{held}
use Rattle.many.proofs.Alike.{pick_first, pick_second}
use Rattle.exponential_slots.specs.Cells.{words_of}
use Rattle.exponential_whole_batches.specs.Slot.{extremes_of}
use Rattle.exponential_whole_batches.proofs.slot.keep.Goals as goal

pub returns-then-run-eq0 : goal.returns-then-run-eq0
returns-then-run-eq0 c =
    let a = c.args in
    let h = a.run.head in record { figures_after = sym (pick_first a.run.taken c.if-run-eq0.true a.figures.now (set a.figures.now a.x (words_of h.counts))); extremes_after = sym (pick_first a.run.taken c.if-run-eq0.true a.extremes.now (set a.extremes.now a.x (extremes_of h))) }

pub returns : goal.returns
returns c =
    let least : SFits w64 c.args.run.head.min = search rules in
    let greatest : SFits w64 c.args.run.head.max = search rules in
    let sum : SFits w64 c.args.run.head.sum = search rules in
    let a = c.args in
    let h = a.run.head in record {
      figures_after = ap (set a.figures.now a.x) c.words_of.ensures
          ∙ sym (pick_second a.run.taken c.if-run-eq0.false a.figures.now (set a.figures.now a.x (words_of h.counts)));
      extremes_after = (λ j. set a.extremes.now a.x (held h.min (least) j ∷ held h.max (greatest) j ∷ held h.sum (sum) j ∷ []))
          ∙ sym (pick_second a.run.taken c.if-run-eq0.false a.extremes.now (set a.extremes.now a.x (extremes_of h)));
    }
