-- `sheet_reading::judge::may_follow` meets its contract. Assumes nothing.
use borrow.Author.Tests.{eq-eqb, ne_eqb}
use mathlib.Core.Path.{sym, ap, ◌∙◌}
use mathlib.Core.Bool.{Bool, ◌||◌}
use Rattle.tally.specs.Sets.{cmp}
use Rattle.sets.specs.Rows.{set_of, below}
use Rattle.sheet_reading.proofs.judge.may_follow.Goals as goal

pub returns-then-i-eq0 : goal.returns-then-i-eq0
returns-then-i-eq0 c =
    let a = c.args in
    sym (ap (λ (x : Bool). x || below (cmp (set_of a.a.now) (set_of a.b.now))) (eq-eqb a.i 0 c.if-i-eq0.true))

pub returns : goal.returns
returns c =
    let a = c.args in
    c.ascends.ensures ∙ sym (ap (λ (x : Bool). x || below (cmp (set_of a.a.now) (set_of a.b.now))) (ne_eqb a.i 0 c.if-i-eq0.false))
