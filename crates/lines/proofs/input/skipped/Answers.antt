-- `lines::input::skipped` meets its contract. Assumes nothing.
use native.Mathlib.Omega.{arith}
use mathlib.Core.Path.{sym, ◌∙◌}
use Rattle.lines.proofs.Newlines.{of-clear}
use Rattle.lines.proofs.input.skipped.Goals as goal

pub in_eight-requires : goal.in_eight-requires
in_eight-requires c = omega arith

pub loop-i-preserved : goal.loop-i-preserved
loop-i-preserved c =
    let l = c.loop-i in
    let a = c.args in
    let f = sym c.in_eight.ensures ∙ c.if-not-in_eight.true in
    (omega arith, omega arith, of-clear a.block.now a.end l.i 8 (omega arith) f ∙ l.invariant.2)
