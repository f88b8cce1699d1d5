-- `replay_state::is_single` meets its contract. Assumes nothing.
use mathlib.Core.Path.{sym, ap, ◌∙◌}
use mathlib.Core.Bool.{Bool, ◌||◌}
use lib.Dec.{eqb}
use borrow.Author.Tests.{eq-eqb, ne_eqb}
use Rattle.replay_state.proofs.is_single.Goals as goal

pub returns-then-kind-eq115 : goal.returns-then-kind-eq115
returns-then-kind-eq115 c =
    let e = eq-eqb _ _ c.if-kind-eq115.true in
    e ∙ ap (λ (b : Bool). b || eqb c.args.kind 108) (sym e)

pub returns-else-kind-eq115 : goal.returns-else-kind-eq115
returns-else-kind-eq115 c = ap (λ (b : Bool). b || eqb c.args.kind 108) (sym (ne_eqb _ _ c.if-kind-eq115.false))
