use mathlib.Core.Path.{refl, ◌∙◌}
use native.Mathlib.Omega.{arith}
use lib.Seq.{take_all}
use Rattle.points.specs.Explicit.{same_bounds}
use Rattle.explicit.proofs.Turns.{same_turn, same-other, same_none}
use Rattle.explicit.proofs.same_bounds.Goals as goal

pub returns-then-n-b : goal.returns-then-n-b
returns-then-n-b c = same-other c.args.a.now c.args.b.now c.if-n-b.true

pub loop-i-init : goal.loop-i-init
loop-i-init c = same_none c.args.a.now c.args.b.now

pub loop-i-preserved : goal.loop-i-preserved
loop-i-preserved c =
    let a = c.args in
    same_turn a.a.now a.b.now c.loop-i.i c.loop-i.ok _ c.if-n-b.false c.loop-i-test.true c.loop-i.invariant refl

pub returns : goal.returns
returns c =
    let a = c.args in
    c.loop-i.invariant ∙ (λ j. same_bounds (take_all c.loop-i.i a.a.now c.loop-i-test.false j) (take_all c.loop-i.i a.b.now (omega (arith, c.if-n-b.false, c.loop-i-test.false)) j))
