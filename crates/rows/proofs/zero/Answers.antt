use mathlib.Core.Path.{◌≡◌, sym}
use native.Mathlib.Omega.{arith}
use Rattle.rows.proofs.Moves.{zeroed-none, zeroed-more}
use Rattle.rows.proofs.zero.Goals as goal

pub loop-i-init : goal.loop-i-init
loop-i-init c = sym (zeroed-none _ _)

pub loop-i-preserved : goal.loop-i-preserved
loop-i-preserved c =
    let l = c.loop-i in
    rw l.invariant (zeroed-more _ l.i c.args.counts.now (omega arith) (omega arith))

pub returns : goal.returns
returns c =
    let l = c.loop-i in
    let e : l.i ≡ c.args.e = omega arith in
    rw e at l.invariant
