-- `sheet::writing::sheet_lines` meets its contract. Assumes nothing.
use Prim.Native.Nat.{◌/◌}
use mathlib.Core.List.{[], ◌∷◌}
use lib.ListN.{length}
use Rattle.lines.specs.Gathered.{waiting}
use Rattle.lines.specs.Written.{decimal}
use Rattle.lines.proofs.Gathering.{then}
use Rattle.printing.specs.Fields.{line}
use Rattle.printing.proofs.Putting.{a-line, a-field, no_field}
use Rattle.sheet.specs.Digits.{record_lines}
use Rattle.sheet.specs.Shown.{sheet_lines}
use Rattle.sheet.proofs.writing.sheet_lines.Goals as goal

pub returns : goal.returns
unfolding sheet_lines
returns c =
    let a = c.args in
    let bs = a.bytes.now in
    let n = length bs / 32 in
    then (line ((115 ∷ []) ∷ decimal n ∷ [])) (record_lines n bs) (waiting a.n a.text.now)
    (a-line (115 ∷ []) (decimal n ∷ []) (waiting a.n a.text.now) c.byte-a.ensures
    (a-field 32 _ (decimal n) [] c.number-b.ensures (no_field 32 _)) c.byte-c.ensures)
    c.record_lines.ensures
