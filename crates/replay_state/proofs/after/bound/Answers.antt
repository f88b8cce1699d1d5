-- `replay_state::after::bound` meets its contract. Assumes nothing.
use Prim.Native.Nat.{ℕ}
use mathlib.Core.Path.{ap, ◌∙◌}
use lib.ListN.{set}
use Rattle.replay_state.specs.After.{answered, accepted}
use Rattle.replay_state.specs.declared.State.{State}
use Rattle.replay_state.proofs.after.bound.Goals as goal

pub returns : goal.returns
returns c =
    let a = c.args in
    ap (λ (t : State). answered t t.no t.told t.dir (set t.handles c.within-i.result a.birth) t.start t.listed t.collected) c.accepted-next.ensures
    ∙ ap (λ (k : ℕ). answered a.s accepted a.birth a.dir (set a.s.handles k a.birth) a.s.start a.s.listed
    a.s.collected) c.within-i.ensures
