-- `point::signed::offset` meets its contract. Assumes nothing.
use mathlib.Core.Path.{sym, ap, ◌∙◌}
use Rattle.point.specs.Signed.{offset_answer, offset_shown}
use Rattle.point.proofs.signed.offset.Goals as goal

pub returns-in-Exponential : goal.returns-in-Exponential
returns-in-Exponential c =
    let a = c.args in
    c.row_offset.ensures
    ∙ ap (offset_answer c.in-Exponential.c.level) c.row_of-row.ensures
    ∙ sym (ap (offset_shown a.negative) c.in-Exponential.is)
