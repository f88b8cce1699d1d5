-- `replay_state::outcome` meets its contract. Assumes nothing.
use borrow.Author.Rules.{rules}
use Rattle.replay_state.proofs.Named.{accepts, fails}
use Rattle.replay_state.proofs.outcome.Goals as goal

pub returns-then-no-eq0 : goal.returns-then-no-eq0
returns-then-no-eq0 c = search (rules, accepts)

pub returns : goal.returns
returns c = search (rules, fails)
