-- `seats::room::suffices` meets its contract. Assumes nothing.
use Prim.Native.Nat.{◌+◌, min}
use mathlib.Core.Path.{ap, ◌∙◌}
use lib.Dec.{leb}
use Rattle.seats.proofs.Least.{all_suffice}
use Rattle.seats.proofs.room.suffices.Goals as goal

pub returns : goal.returns
returns c =
    let a = c.args in
    c.suffices.ensures
    ∙ ap (leb (a.limit + 2)) (c.lesser-least.ensures ∙ (λ i. min (c.lesser.ensures i) (c.lesser-rest.ensures i)))
    ∙ all_suffice (a.limit + 2) a.sets a.entries a.order a.cells
