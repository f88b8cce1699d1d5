-- `text::fields::spaces` meets its contract. Assumes nothing.
use Rattle.std.proofs.Common.{arith}
use Rattle.text.proofs.Splitting.{spaces-turn, spaces-none}
use Rattle.text.proofs.fields.spaces.Goals as goal

pub loop-byte-preserved : goal.loop-byte-preserved
loop-byte-preserved c =
    let l = c.loop-byte in
    (omega (arith, c.is_space-n.ensures.upper_bound), omega (arith, spaces-turn c.args.line.now l.byte-index (omega arith), c.is_space-n.ensures.value, l.invariant.1))

pub returns : goal.returns
returns c =
    let l = c.loop-byte in
    omega (arith, l.invariant.1, spaces-none c.args.line.now l.byte-index (omega arith))
