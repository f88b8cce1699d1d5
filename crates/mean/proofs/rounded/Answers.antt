-- `mean::rounded` meets its contract. Assumes nothing.
use mathlib.Core.Path.{sym, ◌∙◌}
use native.Mathlib.Omega.{arith}
use Rattle.mean.proofs.Rounding.{rounded-down, rounded-up, rounded-half}
use Rattle.mean.proofs.rounded.Goals as goal

pub returns-then-r-d : goal.returns-then-r-d
returns-then-r-d c =
    let a = c.args in
    sym (rounded-down a.q a.r a.d c.if-r-d.true)

pub returns-then-d-r : goal.returns-then-d-r
returns-then-d-r c =
    let a = c.args in
    sym (rounded-up a.q a.r a.d c.if-d-r.true)

pub returns : goal.returns
returns c =
    let a = c.args in
    c.half.ensures ∙ sym (rounded-half a.q a.r a.d (omega (arith, c.if-r-d.false)) (omega (arith, c.if-d-r.false)))
