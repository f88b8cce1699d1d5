-- `singles::slot::is_sound` meets its contract. Assumes nothing.
use mathlib.Core.Path.{sym, ap, ◌∙◌}
use lib.ListN.{get_or}
use lib.Ieee.{nan}
use Rattle.collecting.proofs.Sure.{sound-known}
use Rattle.singles.specs.Kinds.{holds}
use Rattle.singles.proofs.Owes.{holds-is}
use Rattle.singles.proofs.slot.is_sound.Goals as goal

pub returns-then-known : goal.returns-then-known
returns-then-known c =
    let a = c.args in
    sound-known a.updated (holds a.aggregation (get_or a.values.now a.x nan)) (c.requires.known c.if-known.true)
    ∙ sym (holds-is a.aggregation a.values.now a.x a.updated)

pub returns : goal.returns
returns c =
    let a = c.args in
    c.holds.ensures ∙ ap (holds a.aggregation) c.held_at.ensures
