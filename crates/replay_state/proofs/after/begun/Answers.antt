-- `replay_state::after::begun` meets its contract. Assumes nothing.
use Prim.Native.Nat.{ℕ, ◌%◌}
use mathlib.Core.Path.{ap, ◌∙◌}
use Rattle.replay_state.specs.After.{field, begun_as}
use Rattle.replay_state.proofs.after.begun.Goals as goal

pub returns : goal.returns
returns c =
    let a = c.args in
    ap (λ (k : ℕ). begun_as k c.cut.result a.top a.dir a.s) c.byte.ensures
    ∙ ap (λ (k : ℕ). begun_as (field a.s 1 % 256) k a.top a.dir a.s) c.cut.ensures
