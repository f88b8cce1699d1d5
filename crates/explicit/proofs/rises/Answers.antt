use mathlib.Core.Path.{refl, ap, ◌∙◌}
use native.Mathlib.Omega.{arith}
use lib.Seq.{take_all}
use Rattle.points.specs.Explicit.{rising}
use Rattle.explicit.proofs.Turns.{rising-turn, rising-one}
use Rattle.explicit.proofs.rises.Goals as goal

pub loop-i-init : goal.loop-i-init
loop-i-init c = rising-one c.args.bounds.now

pub loop-i-preserved : goal.loop-i-preserved
loop-i-preserved c = rising-turn c.args.bounds.now c.loop-i.i c.loop-i.ok _ (omega arith) c.loop-i-test.true c.loop-i.invariant refl

pub returns : goal.returns
returns c = c.loop-i.invariant ∙ ap rising (take_all c.loop-i.i c.args.bounds.now c.loop-i-test.false)
