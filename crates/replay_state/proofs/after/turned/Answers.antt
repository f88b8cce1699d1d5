-- `replay_state::after::turned` meets its contract. Assumes nothing.
use Prim.Native.Nat.{ℕ}
use mathlib.Core.Path.{sym, ap, ◌∙◌}
use mathlib.Core.Bool.{Bool}
use Rattle.laws.specs.Pick.{pick}
use Rattle.clock.specs.declared.Turned.{Turned}
use Rattle.replay_state.specs.After.{field, answered, accepted}
use Rattle.replay_state.proofs.after.turned.Goals as goal

pub returns-then-s : goal.returns-then-s
unfolding pick
returns-then-s c =
    let a = c.args in
    let s = a.s in
    c.listed.ensures
    ∙ ap (λ (t : Turned). answered s accepted t.start a.dir s.handles t.clock.start a.many s.kind) c.after_delta-t.ensures
    ∙ sym (ap (λ (b : Bool). answered s accepted s.start a.dir s.handles (pick b (field s 1) s.start) a.many s.kind) c.if-s.true)

pub returns : goal.returns
unfolding pick
returns c =
    let a = c.args in
    let s = a.s in
    c.listed-2.ensures
    ∙ ap (λ (t : ℕ). answered s accepted t a.dir s.handles s.start a.many s.kind) c.at_cumulative.ensures
    ∙ sym (ap (λ (b : Bool). answered s accepted s.start a.dir s.handles (pick b (field s 1) s.start) a.many s.kind) c.if-s.false)
