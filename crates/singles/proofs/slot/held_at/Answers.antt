-- `singles::slot::held_at` meets its contract. Assumes nothing.
use mathlib.Core.Path.{sym}
use Rattle.laws.proofs.Bools.{pick_true, pick-false}
use Rattle.singles.proofs.slot.held_at.Goals as goal

pub returns-then-updated : goal.returns-then-updated
returns-then-updated c = sym (pick_true _ _ _ c.if-updated.true)

pub returns : goal.returns
returns c = sym (pick-false _ _ _ c.if-updated.false)
