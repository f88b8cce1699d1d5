-- `sheet_writing::judge::no_kind` meets its contract. Assumes nothing.
use mathlib.Core.Path.{sym, ◌∙◌}
use native.Mathlib.Omega.{arith}
use Rattle.sheet_writing.proofs.Wholes.{kinds-start, kinds-next, kinds-stop, kinds-end}
use Rattle.sheet_writing.proofs.judge.no_kind.Goals as goal

pub loop-i-init : goal.loop-i-init
loop-i-init c = kinds-start c.args.words.now

pub returns-then-is_whole : goal.returns-then-is_whole
returns-then-is_whole c =
    let a = c.args in
    kinds-stop a.words.now c.loop-i.i a.n c.loop-i-test.true (sym c.is_whole.ensures ∙ c.if-is_whole.true)

pub loop-i-preserved : goal.loop-i-preserved
loop-i-preserved c =
    kinds-next c.args.words.now c.loop-i.i c.loop-i.invariant (sym c.is_whole.ensures ∙ c.if-is_whole.false)

pub returns : goal.returns
returns c =
    let a = c.args in
    kinds-end a.words.now c.loop-i.i a.n c.loop-i.invariant (omega arith) c.loop-i-test.false
