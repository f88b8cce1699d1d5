-- `singles::slot::survey` meets its contract. Assumes nothing.
use mathlib.Core.Path.{◌≡◌, sym, ◌∙◌}
use native.Mathlib.Omega.{arith}
use Rattle.singles.specs.Kinds.{holds}
use Rattle.singles.specs.Stores.{held_at}
use Rattle.singles.proofs.Slots.{survey-none, survey-idle, survey-due}
use Rattle.singles.proofs.slot.survey.Goals as goal

pub is_sound-requires : goal.is_sound-requires
is_sound-requires c = record { x_in_bounds = c.requires.x_in_bounds; known = c.requires.few.1 }

pub returns-then-not-is_sound : goal.returns-then-not-is_sound
returns-then-not-is_sound c =
    let tested : holds c.args.aggregation (held_at c.args.values.now c.args.x c.args.updated) ≡ c.is_sound.result = sym c.is_sound.ensures in
    let a = c.args in record { value = survey-none a.aggregation a.updated a.due a.values.now a.s a.x (tested ∙ c.if-not-is_sound.true); more = (omega arith, omega arith, omega arith) }

pub returns-then-not-due : goal.returns-then-not-due
returns-then-not-due c =
    let tested : holds c.args.aggregation (held_at c.args.values.now c.args.x c.args.updated) ≡ c.is_sound.result = sym c.is_sound.ensures in
    let a = c.args in record { value = survey-idle a.aggregation a.updated a.due a.values.now a.s a.x (tested ∙ c.if-not-is_sound.false) c.if-not-due.true; more = (omega arith, omega arith, omega arith) }

pub returns : goal.returns
returns c =
    let tested : holds c.args.aggregation (held_at c.args.values.now c.args.x c.args.updated) ≡ c.is_sound.result = sym c.is_sound.ensures in
    let a = c.args in record { value = survey-due a.aggregation a.updated a.due a.values.now a.s a.x (tested ∙ c.if-not-is_sound.false) c.if-not-due.false; more = (omega arith, omega arith, omega arith) }
