-- `printing::dash` meets its contract. Assumes nothing.
use mathlib.Core.Path.{sym, ap}
use mathlib.Core.List.{List, [], ◌∷◌}
use Prim.Native.Nat.{ℕ}
use borrow.Author.Tests.{eq-eqb, ne_eqb}
use Rattle.laws.proofs.Bools.{pick_true, pick-false}
use Rattle.lines.specs.Gathered.{waiting}
use Rattle.lines.proofs.Gathering.{then, spelt}
use Rattle.printing.proofs.dash.Goals as goal

pub returns-then-many-eq0 : goal.returns-then-many-eq0
returns-then-many-eq0 c =
    let a = c.args in
    let t = waiting a.n a.text.now in
    spelt (ap (λ (r : List ℕ). 32 ∷ r) (sym (pick_true _ (45 ∷ []) [] (eq-eqb a.many 0 c.if-many-eq0.true)))) t
    (then (32 ∷ []) (45 ∷ []) t c.byte-m.ensures c.byte.ensures)

pub returns : goal.returns
returns c =
    let a = c.args in
    spelt (ap (λ (r : List ℕ). 32 ∷ r) (sym (pick-false _ (45 ∷ []) [] (ne_eqb a.many 0 c.if-many-eq0.false)))) (waiting a.n a.text.now) c.byte-m.ensures
