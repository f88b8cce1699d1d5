-- `mean::signed` meets its contract. Assumes nothing.
use mathlib.Core.Path.{ap, sym, ◌∙◌}
use mathlib.Core.Bool.{Bool}
use Rattle.floats.specs.Grid.{signed}
use Rattle.mean.proofs.Signs.{plain, minus-fits, minus-said}
use borrow.Author.Rules.{rules}
use Rattle.mean.proofs.signed.Goals as goal

pub overflow_sub-result : goal.overflow_sub-result
overflow_sub-result c = minus-fits c.args.size (search rules)

pub returns-then-negative : goal.returns-then-negative
returns-then-negative c =
    let a = c.args in
    minus-said a.size (search rules) ∙ ap (λ (b : Bool). signed b a.size) (sym c.if-negative.true)

pub returns-else-negative : goal.returns-else-negative
returns-else-negative c =
    let a = c.args in
    plain a.size (search rules) ∙ ap (λ (b : Bool). signed b a.size) (sym c.if-negative.false)
