-- `explicit_collection::slot::sound_at` meets its contract. Assumes nothing.
use mathlib.Core.Path.{sym, ap, ◌∙◌}
use mathlib.Core.Bool.{Bool, not, ◌||◌}
use Rattle.explicit_slots.specs.Cells.{cells}
use Rattle.collecting.proofs.Sure.{sound-known}
use Rattle.explicit_collection.proofs.Slots.{agrees_at}
use Rattle.explicit_collection.proofs.slot.sound_at.Goals as goal

pub returns-then-known : goal.returns-then-known
returns-then-known c = sound-known c.args.updated _ (c.requires.known c.if-known.true)

pub returns : goal.returns
returns c =
    let a = c.args in
    c.agrees_at.ensures
    ∙ ap (λ (b : Bool). not b || agrees_at a.bounds.now (cells a.totals.now a.extremes.now a.counts.now) a.x) (sym c.if-not-updated.false)
