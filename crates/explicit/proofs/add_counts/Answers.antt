use mathlib.Core.Path.{◌≡◌}
use native.Mathlib.Omega.{arith}
use Rattle.explicit.proofs.Writes.{added-turn, added-fits, added_none}
use Rattle.explicit.proofs.add_counts.Goals as goal

pub loop-i-init : goal.loop-i-init
loop-i-init c = let a = c.args in added_none a.a.now a.b.now a.out.now

pub overflow_add-out : goal.overflow_add-out
overflow_add-out c =
    let a = c.args in
    omega (arith, added-fits a.a.now a.b.now a.out.now a.n c.loop-i.i c.loop-i-test.true c.requires.0.first c.requires.0.second c.requires.1 c.requires.0.sums)

pub loop-i-preserved : goal.loop-i-preserved
loop-i-preserved c =
    let a = c.args in
    added-turn a.a.now a.b.now a.out.now a.n c.loop-i.i c.loop-i-test.true c.requires.0.first c.requires.0.second c.requires.1 c.loop-i.out c.loop-i.invariant

pub returns : goal.returns
returns c =
    let l = c.loop-i in
    let e : l.i ≡ c.args.n = omega arith in
    rw e at l.invariant
