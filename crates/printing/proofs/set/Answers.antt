-- `printing::set` meets its contract. Assumes nothing.
use mathlib.Core.List.{[], ◌∷◌}
use Rattle.lines.specs.Gathered.{waiting}
use Rattle.lines.proofs.Gathering.{then}
use Rattle.printing.proofs.set.Goals as goal

pub returns : goal.returns
returns c =
    let a = c.args in
    then (32 ∷ []) _ (waiting a.n a.text.now) c.byte-m.ensures c.bare_set.ensures
