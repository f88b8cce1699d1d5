-- `printing::value` meets its contract. Assumes nothing.
use mathlib.Core.List.{[], ◌∷◌}
use lib.ListN.{get_or}
use Rattle.text.specs.Numbers.{hex_digits}
use Rattle.lines.specs.Gathered.{waiting}
use Rattle.lines.proofs.Gathering.{spelt}
use Rattle.printing.specs.Fields.{set_field}
use Rattle.printing.specs.Printed.{value_line}
use Rattle.printing.proofs.Putting.{nothing, a-line, a-field, no_field}
use Rattle.printing.proofs.Sets.{eight}
use Rattle.printing.proofs.Singles.{no_row, no_value, value_there}
use Rattle.printing.proofs.value.Goals as goal

pub returns-then-sets-k : goal.returns-then-sets-k
returns-then-sets-k c =
    let a = c.args in
    spelt (no_row a.k a.sets.now a.values.now c.if-sets-k.true) (waiting a.n a.text.now) (nothing _)

pub returns-then-values-k : goal.returns-then-values-k
returns-then-values-k c =
    let a = c.args in
    spelt (no_value a.k a.sets.now a.values.now c.if-sets-k.false c.if-values-k.true) (waiting a.n a.text.now) (nothing _)

pub returns : goal.returns
unfolding value_line
returns c =
    let a = c.args in
    let row = set_field (eight (get_or a.sets.now a.k [])) in
    let bits = hex_digits 16 (get_or a.values.now a.k 0) in
    spelt (value_there a.k a.sets.now a.values.now c.if-sets-k.false c.if-values-k.false) (waiting a.n a.text.now)
    (a-line (118 ∷ []) (row ∷ bits ∷ []) _ c.byte-a.ensures
    (a-field 32 _ row (bits ∷ []) c.set-b.ensures (a-field 32 _ bits [] c.bits-c.ensures (no_field 32 _))) c.byte.ensures)
