-- `replay_state::lent::order` meets its contract. Assumes nothing.
use Rattle.replay_state.proofs.Front.{front-is}
use Rattle.replay_state.proofs.lent.order.Goals as goal

pub returns : goal.returns
returns c =
    front-is c.args.xs.now c.args.n c.within-e.result c.within-e.ensures
