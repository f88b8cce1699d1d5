-- `singles::slot::stepped` meets its contract. Assumes nothing.
use mathlib.Core.Path.{sym, ap}
use Rattle.singles.specs.declared.Aggregation.{Aggregation}
use Rattle.singles.specs.Kinds.{step}
use Rattle.singles.proofs.slot.stepped.Goals as goal

pub returns-in-Sum : goal.returns-in-Sum
returns-in-Sum c = let a = c.args in sym (ap (λ (x : Aggregation). step x a.held a.v) c.in-Sum.is)

pub returns-in-LastValue : goal.returns-in-LastValue
returns-in-LastValue c = let a = c.args in sym (ap (λ (x : Aggregation). step x a.held a.v) c.in-LastValue.is)
