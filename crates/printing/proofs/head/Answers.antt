-- `printing::head` meets its contract. Assumes nothing.
use mathlib.Core.List.{[], ◌∷◌}
use Rattle.lines.specs.Gathered.{waiting}
use Rattle.lines.specs.Written.{decimal}
use Rattle.printing.specs.Printed.{collection_head}
use Rattle.printing.proofs.Putting.{a-line, a-field, no_field}
use Rattle.printing.proofs.head.Goals as goal

pub returns : goal.returns
unfolding collection_head
returns c =
    let a = c.args in
    let x = decimal a.start in
    let y = decimal a.time in
    let z = decimal a.many in
    a-line (99 ∷ []) (x ∷ y ∷ z ∷ []) (waiting a.n a.text.now) c.byte-a.ensures
    (a-field 32 _ x (y ∷ z ∷ []) c.number-b.ensures
    (a-field 32 _ y (z ∷ []) c.number-c.ensures (a-field 32 _ z [] c.number-d.ensures (no_field 32 _))))
    c.byte.ensures
