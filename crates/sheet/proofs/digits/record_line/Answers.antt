-- `sheet::digits::record_line` meets its contract. Assumes nothing.
use mathlib.Core.List.{[], ◌∷◌}
use Rattle.lines.specs.Gathered.{waiting}
use Rattle.lines.proofs.Gathering.{then}
use Rattle.sheet.specs.Digits.{hex_of}
use Rattle.sheet.proofs.digits.record_line.Goals as goal

pub returns : goal.returns
returns c =
    let a = c.args in
    then (hex_of a.bytes.now) (10 ∷ []) (waiting a.n a.text.now) c.digits_of-m.ensures c.byte.ensures
