-- `printing::bits` meets its contract. Assumes nothing.
use mathlib.Core.List.{[], ◌∷◌}
use Rattle.text.specs.Numbers.{hex_digits}
use Rattle.lines.specs.Gathered.{waiting}
use Rattle.lines.proofs.Gathering.{then}
use Rattle.printing.proofs.bits.Goals as goal

pub returns : goal.returns
returns c =
    let a = c.args in
    then (32 ∷ []) (hex_digits 16 a.x) (waiting a.n a.text.now) c.byte-m.ensures c.bits.ensures
