-- `replay_state::Fault::numbered` meets its contract. Assumes nothing.
use mathlib.Core.Path.{sym}
use mathlib.Core.Logic.{inl, inr}
use Rattle.replay_state.proofs.Named.{unread-named, zero-named, other-named}
use Rattle.replay_state.proofs.Fault.numbered.Goals as goal

pub returns-then-no-eq-UNREAD-clause-value : goal.returns-then-no-eq-UNREAD-clause-value
returns-then-no-eq-UNREAD-clause-value c = sym (unread-named c.args.no c.if-no-eq-UNREAD.true)

pub returns-then-no-eq0-clause-value : goal.returns-then-no-eq0-clause-value
returns-then-no-eq0-clause-value c =
    elim c.then-no-eq0.either [
      | inl z ↦ sym (zero-named c.args.no z)
      | inr p ↦ sym (other-named c.args.no p.1 c.if-no-eq-UNREAD.false)
    ]
