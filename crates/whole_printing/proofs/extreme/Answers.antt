-- `whole_printing::extreme` meets its contract. Assumes nothing.
use mathlib.Core.Path.{sym, ap, ◌∙◌}
use mathlib.Core.List.{◌∷◌}
use lib.IntN.{ℤ}
use mir.Syntax.{w64}
use mir.Val.{SFits}
use Rattle.std.specs.Prelude.{Option}
use Rattle.lines.specs.Gathered.{waiting}
use Rattle.lines.specs.Written.{signed}
use Rattle.lines.proofs.Gathering.{spelt}
use Rattle.integers.proofs.Range.{held}
use Rattle.whole_printing.specs.Printed.{extreme_field}
use borrow.Author.Rules.{rules}
use Rattle.whole_printing.proofs.extreme.Goals as goal

pub returns-in-None : goal.returns-in-None
returns-in-None c =
    let a = c.args in
    spelt (ap (λ (x : Option ℤ). 32 ∷ extreme_field x) (sym c.in-None.is)) (waiting a.n a.text.now) c.bytes.ensures

pub returns-in-Some : goal.returns-in-Some
returns-in-Some c =
    let a = c.args in
    let f : SFits w64 c.in-Some.v = search rules in
    spelt (ap (λ (z : ℤ). 32 ∷ signed z) (held c.in-Some.v f) ∙ ap (λ (e : Option ℤ). 32 ∷ extreme_field e) (sym c.in-Some.is)) (waiting a.n a.text.now) c.integer.ensures
