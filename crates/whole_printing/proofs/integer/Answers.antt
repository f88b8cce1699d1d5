-- `whole_printing::integer` meets its contract. Assumes nothing.
use mathlib.Core.Path.{ap}
use mathlib.Core.List.{[], ◌∷◌}
use Rattle.lines.specs.Gathered.{waiting}
use Rattle.lines.specs.Written.{signed}
use Rattle.lines.proofs.Gathering.{then, spelt}
use Rattle.integers.proofs.Range.{held}
use Rattle.whole_printing.proofs.integer.Goals as goal

pub returns : goal.returns
returns c =
    let a = c.args in
    then (32 ∷ []) (signed a.x) (waiting a.n a.text.now) c.byte-m.ensures
    (spelt (ap signed (held a.x c.ranges.x)) _ c.signed.ensures)
