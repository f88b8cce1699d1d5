-- `slot::keep` meets its contract. Assumes nothing.
use mathlib.Core.Path.{sym, ◌∙◌}
use mathlib.Core.List.{[], ◌∷◌}
use lib.ListN.{set}
use borrow.Author.Rules.{rules}
use mir.Syntax.{w64}
use mir.Val.{SFits}
use Rattle.integers.proofs.Range.{held}
use Rattle.many.proofs.Alike.{pick_first, pick_second}
use Rattle.explicit_whole_batches.specs.Slot.{extremes_of}
use Rattle.explicit_whole_batches.proofs.slot.keep.Goals as goal

pub returns-then-run-eq0 : goal.returns-then-run-eq0
returns-then-run-eq0 c = record { totals_after = sym (pick_first _ c.if-run-eq0.true _ _); extremes_after = sym (pick_first _ c.if-run-eq0.true _ _) }

pub returns : goal.returns
returns c =
    let least : SFits w64 c.args.run.head.min = search rules in
    let greatest : SFits w64 c.args.run.head.max = search rules in
    let sum : SFits w64 c.args.run.head.sum = search rules in
    let a = c.args in
    let h = a.run.head in
    let es = a.extremes.now in record {
      totals_after = sym (pick_second _ c.if-run-eq0.false _ _);
      extremes_after = (λ j. set es a.x (held h.min (least) j ∷ held h.max (greatest) j ∷ held h.sum (sum) j ∷ []))
          ∙ sym (pick_second a.run.taken c.if-run-eq0.false es (set es a.x (extremes_of h)));
    }
