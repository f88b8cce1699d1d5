-- `lines::input::newline` meets its contract. Assumes nothing.
use native.Mathlib.Omega.{arith}
use mathlib.Core.Path.{◌∙◌}
use Rattle.lines.proofs.Newlines.{of-turn, of-stop, of_none}
use Rattle.lines.proofs.input.newline.Goals as goal

pub returns-then-block-i-eq10 : goal.returns-then-block-i-eq10
returns-then-block-i-eq10 c =
    let l = c.loop-i in
    let a = c.args in
    let e = of-stop a.block.now a.end l.i (omega arith) c.if-block-i-eq10.true in
    (omega arith, omega arith, omega (arith, e, l.invariant.1))

pub loop-i-preserved : goal.loop-i-preserved
loop-i-preserved c =
    let l = c.loop-i in
    let a = c.args in
    (omega arith, of-turn a.block.now a.end l.i (omega arith) c.if-block-i-eq10.false ∙ l.invariant.1)

pub returns : goal.returns
returns c =
    let l = c.loop-i in
    let a = c.args in
    let e = of_none a.block.now a.end l.i (omega arith) in
    (omega arith, omega arith, omega (arith, e, l.invariant.1))
