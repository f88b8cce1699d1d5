-- `lines::input::take` meets its contract. Assumes nothing.
use mathlib.Core.Path.{refl}
use native.Mathlib.Omega.{arith}
use Rattle.lines.proofs.Newlines.{taken-ended, taken_open, line-is}
use Rattle.lines.proofs.input.take.Goals as goal

pub returns-then-stop-end : goal.returns-then-stop-end
returns-then-stop-end c = (
  (omega arith, omega arith, omega arith),
  refl,
  taken-ended c.args.p c.args.block.now c.min-end.result c.min-at.result c.min-len.result c.newline-stop.result c.min-n.result c.min-end.ensures c.min-at.ensures c.min-len.ensures c.newline-stop.ensures.2 c.min-n.ensures c.if-stop-end.true,
  line-is c.args.p c.args.block.now c.min-end.result c.min-at.result c.min-len.result c.newline-stop.result c.min-n.result c.min-end.ensures c.min-at.ensures c.min-len.ensures c.newline-stop.ensures.2 c.min-n.ensures _ c.copy.ensures,
)

pub returns : goal.returns
returns c = (
  (omega arith, omega arith, omega arith),
  refl,
  taken_open c.args.p c.args.block.now c.min-end.result c.min-at.result c.min-len.result c.newline-stop.result c.min-n.result c.min-end.ensures c.min-at.ensures c.min-len.ensures c.newline-stop.ensures.2 c.min-n.ensures c.if-stop-end.false,
  line-is c.args.p c.args.block.now c.min-end.result c.min-at.result c.min-len.result c.newline-stop.result c.min-n.result c.min-end.ensures c.min-at.ensures c.min-len.ensures c.newline-stop.ensures.2 c.min-n.ensures _ c.copy.ensures,
)
