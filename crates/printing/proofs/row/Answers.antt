-- `printing::row` meets its contract. Assumes nothing.
use mathlib.Core.List.{[], ◌∷◌}
use Rattle.lines.specs.Gathered.{waiting}
use Rattle.lines.proofs.Gathering.{then}
use Rattle.printing.specs.Fields.{integer_field, row_field}
use Rattle.printing.proofs.row.Goals as goal

pub returns : goal.returns
unfolding row_field
returns c =
    let a = c.args in
    then (32 ∷ integer_field a.offset) _ (waiting a.n a.text.now) c.integer-a.ensures
    (then (58 ∷ []) _ _ c.byte-b.ensures c.counts.ensures)
