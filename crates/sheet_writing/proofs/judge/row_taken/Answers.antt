-- `sheet_writing::judge::row_taken` meets its contract. Assumes nothing.
use mathlib.Core.Path.{sym, ◌∙◌}
use Rattle.sheet_writing.proofs.Steps.{row-absent, row_bad, row_is}
use Rattle.sheet_writing.proofs.judge.row_taken.Goals as goal

pub returns-then-sets-i : goal.returns-then-sets-i
returns-then-sets-i c = let a = c.args in row-absent a.i a.sets.now c.if-sets-i.true

pub returns-then-not-row_fine : goal.returns-then-not-row_fine
returns-then-not-row_fine c =
    let a = c.args in
    row_bad a.i a.sets.now c.if-sets-i.false (sym c.row_fine.ensures ∙ c.if-not-row_fine.true)

pub returns : goal.returns
returns c =
    let a = c.args in
    c.may_follow.ensures
    ∙ row_is a.i a.sets.now c.if-sets-i.false (sym c.row_fine.ensures ∙ c.if-not-row_fine.false) c.before-2.result c.before-2.ensures
