use mathlib.Core.Path.{refl, ap, ◌∙◌}
use native.Mathlib.Omega.{arith}
use lib.ListN.{get_or}
use lib.Seq.{take_all}
use lib.Ieee.{nan, lt}
use Rattle.points.specs.Explicit.{bucket_of}
use Rattle.laws.proofs.Counting.{bit_le}
use Rattle.explicit.proofs.Turns.{bucket-turn}
use Rattle.explicit.proofs.bucket_of.Goals as goal

pub loop-b-init : goal.loop-b-init
unfolding bucket_of
loop-b-init c = (omega arith, refl)

pub overflow_add-k : goal.overflow_add-k
overflow_add-k c = omega (arith, c.from-k.ensures, bit_le (lt (get_or c.args.bounds.now c.loop-b.b-index nan) c.args.v))

pub loop-b-preserved : goal.loop-b-preserved
loop-b-preserved c =
    let a = c.args in
    let bs = a.bounds.now in
    let i = c.loop-b.b-index in
    (omega (arith, c.from-k.ensures, bit_le (lt (get_or bs i nan) a.v)), bucket-turn bs a.v i c.loop-b.k _ c.loop-b-test.true c.loop-b.invariant.1 c.from-k.ensures)

pub returns : goal.returns
returns c =
    let a = c.args in
    c.loop-b.invariant.1 ∙ ap (λ l. bucket_of l a.v) (take_all c.loop-b.b-index a.bounds.now c.loop-b-test.false)
