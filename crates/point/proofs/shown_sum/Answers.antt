use mathlib.Core.Path.{sym, ap}
use mathlib.Core.Bool.{Bool}
use Rattle.laws.specs.Pick.{pick}
use Rattle.floats.specs.Starts.{zero_float}
use Rattle.point.proofs.shown_sum.Goals as goal

pub returns-then-on : goal.returns-then-on
unfolding pick
returns-then-on c = sym (ap (λ (b : Bool). pick b c.args.sum zero_float) c.if-on.true)

pub returns : goal.returns
unfolding pick
returns c = sym (ap (λ (b : Bool). pick b c.args.sum zero_float) c.if-on.false)
