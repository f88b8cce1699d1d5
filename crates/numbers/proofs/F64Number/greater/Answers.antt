-- The greater of two f64s meets its contract. Assumes nothing.
use mathlib.Core.Path.{sym}
use Rattle.laws.proofs.Bools.{pick_true, pick-false}
use Rattle.numbers.proofs.F64Number.greater.Goals as goal

pub returns-then-self-v : goal.returns-then-self-v
returns-then-self-v c = sym (pick_true _ _ _ c.if-self-v.true)

pub returns-else-self-v : goal.returns-else-self-v
returns-else-self-v c = sym (pick-false _ _ _ c.if-self-v.false)
