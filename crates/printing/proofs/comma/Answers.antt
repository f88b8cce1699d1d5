-- `printing::comma` meets its contract. Assumes nothing.
use mathlib.Core.Path.{sym}
use mathlib.Core.List.{[], ◌∷◌}
use borrow.Author.Tests.{eq-eqb, ne_eqb}
use Rattle.laws.proofs.Bools.{pick_true, pick-false}
use Rattle.lines.specs.Gathered.{waiting}
use Rattle.lines.proofs.Gathering.{spelt}
use Rattle.printing.proofs.Putting.{nothing}
use Rattle.printing.proofs.comma.Goals as goal

pub returns-then-i-eq0 : goal.returns-then-i-eq0
returns-then-i-eq0 c =
    let a = c.args in
    spelt (sym (pick_true _ [] (44 ∷ []) (eq-eqb a.i 0 c.if-i-eq0.true))) (waiting a.n a.text.now) (nothing _)

pub returns : goal.returns
returns c =
    let a = c.args in
    spelt (sym (pick-false _ [] (44 ∷ []) (ne_eqb a.i 0 c.if-i-eq0.false))) (waiting a.n a.text.now) c.byte.ensures
