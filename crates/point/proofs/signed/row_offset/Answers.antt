-- `point::signed::row_offset` meets its contract. Assumes nothing.
use mathlib.Core.Path.{sym, ◌∙◌}
use Rattle.point.proofs.Offsets.{offset-empty, offset-there}
use Rattle.point.proofs.signed.row_offset.Goals as goal

pub returns-then-row-eq0 : goal.returns-then-row-eq0
returns-then-row-eq0 c =
    let a = c.args in
    sym (offset-empty a.level a.row c.if-row-eq0.true)

pub returns : goal.returns
returns c =
    let a = c.args in
    c.index_of.ensures ∙ sym (offset-there a.level a.row c.if-row-eq0.false)
