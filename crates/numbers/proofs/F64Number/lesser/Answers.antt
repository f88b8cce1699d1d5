-- The lesser of two f64s meets its contract. Assumes nothing.
use mathlib.Core.Path.{sym}
use Rattle.laws.proofs.Bools.{pick_true, pick-false}
use Rattle.numbers.proofs.F64Number.lesser.Goals as goal

pub returns-then-v-self : goal.returns-then-v-self
returns-then-v-self c = sym (pick_true _ _ _ c.if-v-self.true)

pub returns-else-v-self : goal.returns-else-v-self
returns-else-v-self c = sym (pick-false _ _ _ c.if-v-self.false)
