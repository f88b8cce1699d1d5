-- `printing::number` meets its contract. Assumes nothing.
use mathlib.Core.List.{[], ◌∷◌}
use Rattle.lines.specs.Gathered.{waiting}
use Rattle.lines.specs.Written.{decimal}
use Rattle.lines.proofs.Gathering.{then}
use Rattle.printing.proofs.number.Goals as goal

pub returns : goal.returns
returns c =
    let a = c.args in
    then (32 ∷ []) (decimal a.x) (waiting a.n a.text.now) c.byte-m.ensures c.decimal.ensures
