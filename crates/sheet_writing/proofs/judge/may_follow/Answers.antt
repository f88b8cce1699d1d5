-- `sheet_writing::judge::may_follow` meets its contract. Assumes nothing.
use mathlib.Core.Path.{◌∙◌}
use Rattle.sheet_writing.proofs.Steps.{follow-first, follow-long, follow-long_2, follow-is}
use Rattle.sheet_writing.proofs.judge.may_follow.Goals as goal

pub returns-then-i-eq0 : goal.returns-then-i-eq0
returns-then-i-eq0 c = let a = c.args in follow-first a.i a.a.now a.b.now c.if-i-eq0.true

pub returns-then-a-gt8 : goal.returns-then-a-gt8
returns-then-a-gt8 c =
    let a = c.args in
    follow-long a.i a.a.now a.b.now c.if-i-eq0.false c.if-a-gt8.true

pub returns-then-b-gt8 : goal.returns-then-b-gt8
returns-then-b-gt8 c =
    let a = c.args in
    follow-long_2 a.i a.a.now a.b.now c.if-i-eq0.false c.if-a-gt8.false c.if-b-gt8.true

pub returns : goal.returns
returns c =
    let a = c.args in
    c.ascends.ensures ∙ follow-is a.i a.a.now a.b.now c.if-i-eq0.false c.if-a-gt8.false c.if-b-gt8.false
