-- `shows_extremes` meets its contract. Assumes nothing.
use mathlib.Core.Path.{sym, ap}
use mathlib.Core.Bool.{Bool}
use Rattle.floats.specs.Answers.{shows}
use Rattle.floats.proofs.shows_extremes.Goals as goal

pub returns-then-switch : goal.returns-then-switch
returns-then-switch c = let a = c.args in sym (ap (λ (s : Bool). shows s a.count) c.if-switch.true)

pub returns : goal.returns
returns c = let a = c.args in sym (ap (λ (s : Bool). shows s a.count) c.if-switch.false)
