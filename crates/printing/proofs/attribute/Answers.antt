-- `printing::attribute` meets its contract. Assumes nothing.
use Prim.Native.Nat.{◌/◌, ◌%◌}
use mathlib.Core.List.{[], ◌∷◌}
use Rattle.lines.specs.Gathered.{waiting}
use Rattle.lines.specs.Written.{decimal}
use Rattle.lines.proofs.Gathering.{then}
use Rattle.printing.specs.Fields.{attribute_field}
use Rattle.printing.proofs.attribute.Goals as goal

pub returns : goal.returns
unfolding attribute_field
returns c =
    let a = c.args in
    let value = decimal (a.word % 4294967296) in
    then (decimal (a.word / 4294967296)) (58 ∷ value) (waiting a.n a.text.now) c.decimal-a.ensures
    (then (58 ∷ []) value _ c.byte-b.ensures c.decimal.ensures)
