-- `replay_state::lent::counts` meets its contract. Assumes nothing.
use Rattle.replay_state.proofs.Front.{front-is}
use Rattle.replay_state.proofs.lent.counts.Goals as goal

pub returns : goal.returns
returns c =
    front-is c.args.xs.now c.args.n c.within-e.result c.within-e.ensures
