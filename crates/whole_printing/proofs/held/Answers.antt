-- `whole_printing::held` meets its contract. Assumes nothing.
use mathlib.Core.Path.{ap}
use mathlib.Core.List.{[], ◌∷◌}
use lib.IntN.{ℤ}
use mir.Syntax.{w64}
use mir.Val.{SFits}
use Rattle.lines.specs.Gathered.{waiting}
use Rattle.lines.proofs.Gathering.{spelt}
use Rattle.integers.proofs.Range.{held}
use Rattle.lines.specs.Written.{signed}
use Rattle.whole_printing.specs.Printed.{extreme_field}
use Rattle.printing.proofs.Putting.{a-field, no_field}
use borrow.Author.Rules.{rules}
use Rattle.whole_printing.proofs.held.Goals as goal

pub returns : goal.returns
returns c =
    let sum_fits : SFits w64 c.args.p.sum = search rules in
    let a = c.args in
    let total = signed a.p.sum in
    let max = extreme_field a.p.max in
    a-field 32 (waiting a.n a.text.now) (extreme_field a.p.min) (max ∷ total ∷ []) c.extreme-a.ensures
    (a-field 32 _ max (total ∷ []) c.extreme-b.ensures
    (a-field 32 _ total [] (spelt (ap (λ (z : ℤ). 32 ∷ signed z) (held a.p.sum (sum_fits))) _ c.integer.ensures) (no_field 32 _)))
