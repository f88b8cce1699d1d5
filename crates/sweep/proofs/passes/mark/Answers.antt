-- `sweep::passes::mark` meets its contract. Assumes nothing.
use mathlib.Core.Path.{sym}
use Rattle.laws.proofs.Bools.{pick_true, pick-false}
use Rattle.sweep.proofs.passes.mark.Goals as goal

pub returns-then-stays : goal.returns-then-stays
returns-then-stays c = sym (pick_true _ c.args.r 0 c.if-stays.true)

pub returns-else-stays : goal.returns-else-stays
returns-else-stays c = sym (pick-false _ c.args.r 0 c.if-stays.false)
