-- `sheet::digits::put` meets its contract: what the digits left put from here on is what all put. Assumes nothing.
use Prim.Native.Nat.{◌+◌, ◌*◌}
use mathlib.Core.Path.{sym, ap, ◌∙◌}
use native.Mathlib.Omega.{arith}
use lib.Seq.{sets}
use Rattle.sheet.specs.Digits.{bytes_in}
use Rattle.sheet.proofs.Hex.{record-length, record_digit, put-start, put-turn, put-end}
use Rattle.sheet.proofs.digits.put.Goals as goal

pub loop-i-init : goal.loop-i-init
loop-i-init c =
    (record-length c.args.line.now c.requires, omega (arith, c.min-from.ensures), put-start c.args.line.now 0 c.min-from.result c.args.sheet.now)

pub byte_of-requires : goal.byte_of-requires
byte_of-requires c =
    let l = c.loop-i in
    (record_digit c.args.line.now c.requires (2 * l.i) (omega arith), record_digit c.args.line.now c.requires (2 * l.i + 1) (omega arith))

pub loop-i-preserved : goal.loop-i-preserved
loop-i-preserved c =
    let l = c.loop-i in
    (l.invariant.0, l.invariant.1, put-turn c.args.line.now l.i c.min-from.result l.sheet c.byte_of.result (omega arith) c.byte_of.ensures ∙ l.invariant.2)

pub returns : goal.returns
returns c =
    let l = c.loop-i in
    let a = c.args in
    let bs = a.line.now in record {
      value = omega (arith, c.min-from.ensures);
      sheet_after = sym (put-end bs l.i c.min-from.result l.sheet (omega arith)) ∙ l.invariant.2
          ∙ ap (λ k. sets a.sheet.now k (bytes_in bs)) c.min-from.ensures;
    }
