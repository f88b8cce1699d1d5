-- `listing::put::copy` meets its contract. Assumes nothing.
use mathlib.Core.Path.{◌≡◌, sym}
use native.Mathlib.Omega.{arith}
use Rattle.laws.proofs.Over.{over_none}
use Rattle.listing.proofs.Cases.{copy-turn}
use Rattle.listing.proofs.put.copy.Goals as goal

pub loop-i-init : goal.loop-i-init
loop-i-init c = sym (over_none c.args.out.now)

pub loop-i-preserved : goal.loop-i-preserved
loop-i-preserved c =
    let a = c.args in
    let l = c.loop-i in
    copy-turn a.counts.now a.out.now l.out l.i (omega arith) (omega arith) l.invariant

pub returns : goal.returns
returns c =
    let l = c.loop-i in
    let e : l.i ≡ c.args.n = omega arith in
    rw e at l.invariant
