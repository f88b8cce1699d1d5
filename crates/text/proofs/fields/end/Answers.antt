-- `text::fields::end` meets its contract. Assumes nothing.
use Rattle.std.proofs.Common.{arith}
use Rattle.text.proofs.Splitting.{until-turn, until_stop, until_none}
use Rattle.text.proofs.fields.end.Goals as goal

pub returns-then-line-i : goal.returns-then-line-i
returns-then-line-i c =
    let l = c.loop-i in
    let e = until_stop c.args.mark c.args.line.now l.i (omega arith) c.if-line-i.true in
    (omega arith, omega (arith, e, l.invariant))

pub loop-i-preserved : goal.loop-i-preserved
loop-i-preserved c =
    let l = c.loop-i in
    let e = until-turn c.args.mark c.args.line.now l.i (omega arith) c.if-line-i.false in
    omega (arith, e, l.invariant)

pub returns : goal.returns
returns c =
    let l = c.loop-i in
    let e = until_none c.args.mark c.args.line.now l.i (omega arith) in
    (omega arith, omega (arith, e, l.invariant))
