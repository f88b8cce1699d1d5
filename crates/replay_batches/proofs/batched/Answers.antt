-- `replay_batches::batched` meets its contract. Assumes nothing.
use Prim.Native.Nat.{ℕ}
use mathlib.Core.Path.{ap, ◌∙◌}
use Rattle.replay_state.specs.After.{Outcome, refused, answered}
use Rattle.replay_batches.proofs.batched.Goals as goal

pub returns : goal.returns
returns g c =
    let s = c.args.s in
    let r = c.args.reply in
    ap (λ (o : Outcome). answered s o r.taken r.dir s.handles s.start s.listed s.collected)
    (c.outcome-next.ensures ∙ ap (λ (n : ℕ). refused n) c.code-no.ensures)
