-- `replay_state::lent::given` meets its contract. Assumes nothing.
use Rattle.replay_state.proofs.Front.{front-is}
use Rattle.replay_state.proofs.lent.given.Goals as goal

pub returns : goal.returns
returns c =
    front-is c.args.attrs.now c.args.n c.within-e.result c.within-e.ensures
