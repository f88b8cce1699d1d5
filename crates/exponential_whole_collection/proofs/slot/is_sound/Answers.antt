-- `exponential_whole_collection::slot::is_sound` meets its contract. Assumes nothing.
use mathlib.Core.Path.{◌∙◌}
use Rattle.collecting.proofs.Sure.{sound-known}
use Rattle.exponential_collection.proofs.Slots.{sound-held, sound-fresh}
use Rattle.exponential_whole_collection.proofs.slot.is_sound.Goals as goal

pub returns-then-known : goal.returns-then-known
returns-then-known c = sound-known c.args.updated _ (c.requires.known c.if-known.true)

pub returns-then-updated : goal.returns-then-updated
returns-then-updated c = c.agrees_at.ensures ∙ sound-held c.args.updated _ c.if-updated.true

pub returns : goal.returns
returns c = sound-fresh c.args.updated _ c.if-updated.false
