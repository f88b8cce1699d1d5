-- `sheet::digits::are_digits` meets its contract: those that are left decide. Assumes nothing.
use mathlib.Core.Path.{sym, ◌∙◌}
use native.Mathlib.Omega.{arith}
use Rattle.sheet.proofs.Hex.{all-turn, all-no, all_end}
use Rattle.sheet.proofs.digits.are_digits.Goals as goal

pub returns-then-digit-gt15 : goal.returns-then-digit-gt15
returns-then-digit-gt15 c =
    let l = c.loop-byte in
    sym (all-no c.args.bytes.now l.byte-index (omega arith) (omega (arith, c.if-digit-gt15.true, c.digit.ensures))) ∙ l.invariant

pub loop-byte-preserved : goal.loop-byte-preserved
loop-byte-preserved c =
    let l = c.loop-byte in
    all-turn c.args.bytes.now l.byte-index (omega arith) (omega (arith, c.if-digit-gt15.false, c.digit.ensures)) ∙ l.invariant

pub returns : goal.returns
returns c =
    let l = c.loop-byte in
    sym (all_end c.args.bytes.now l.byte-index (omega arith)) ∙ l.invariant
