-- `replay_state::is_whole` meets its contract. Assumes nothing.
use mathlib.Core.Path.{sym, ap, ◌∙◌}
use mathlib.Core.Bool.{Bool, ◌||◌}
use lib.Dec.{eqb}
use borrow.Author.Tests.{eq-eqb, ne_eqb}
use Rattle.replay_state.proofs.is_whole.Goals as goal

pub returns-then-kind-eq69 : goal.returns-then-kind-eq69
returns-then-kind-eq69 c =
    let e = eq-eqb _ _ c.if-kind-eq69.true in
    e ∙ ap (λ (b : Bool). b || eqb c.args.kind 88) (sym e)

pub returns-else-kind-eq69 : goal.returns-else-kind-eq69
returns-else-kind-eq69 c = ap (λ (b : Bool). b || eqb c.args.kind 88) (sym (ne_eqb _ _ c.if-kind-eq69.false))
