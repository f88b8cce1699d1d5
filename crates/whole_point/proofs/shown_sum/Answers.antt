-- `shown_sum` meets its contract. Assumes nothing.
use mathlib.Core.Path.{sym, ◌∙◌}
use Rattle.laws.proofs.Bools.{pick_true, pick-false}
use Rattle.integers.proofs.Range.{held}
use Rattle.whole_point.proofs.shown_sum.Goals as goal

pub returns-then-on : goal.returns-then-on
returns-then-on c = held c.args.sum c.ranges.sum ∙ sym (pick_true _ _ _ c.if-on.true)

pub returns : goal.returns
returns c = sym (pick-false _ _ _ c.if-on.false)
