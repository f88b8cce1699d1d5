-- `sheet::digits::digits_of` meets its contract: what waits in the end is what the bytes left give from here. Assumes nothing.
use mathlib.Core.Path.{sym, ◌∙◌}
use native.Mathlib.Omega.{arith}
use Rattle.sheet.proofs.Hex.{hex-turn, hex-end}
use Rattle.sheet.proofs.digits.digits_of.Goals as goal

pub loop-byte-preserved : goal.loop-byte-preserved
loop-byte-preserved c =
    let l = c.loop-byte in
    hex-turn c.args.bytes.now l.byte-index _ (omega arith) _ _ c.glyph.ensures c.glyph-in-loop-byte.ensures c.byte-a.ensures c.byte-m.ensures ∙ l.invariant

pub returns : goal.returns
returns c =
    let l = c.loop-byte in
    sym (hex-end c.args.bytes.now l.byte-index _ (omega arith)) ∙ l.invariant
