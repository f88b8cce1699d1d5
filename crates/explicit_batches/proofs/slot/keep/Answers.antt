-- `slot::keep` meets its contract. Assumes nothing.
use mathlib.Core.Path.{sym}
use Rattle.many.proofs.Alike.{pick_first, pick_second}
use Rattle.explicit_batches.proofs.slot.keep.Goals as goal

pub returns-then-run-eq0 : goal.returns-then-run-eq0
returns-then-run-eq0 c = record { totals_after = sym (pick_first _ c.if-run-eq0.true _ _); extremes_after = sym (pick_first _ c.if-run-eq0.true _ _) }

pub returns : goal.returns
returns c = record { totals_after = sym (pick_second _ c.if-run-eq0.false _ _); extremes_after = sym (pick_second _ c.if-run-eq0.false _ _) }
