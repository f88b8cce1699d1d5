-- `replay_batches::integers_in` meets its contract. Assumes nothing.
use Rattle.replay_state.proofs.Front.{front-is}
use Rattle.replay_batches.proofs.integers_in.Goals as goal

pub returns : goal.returns
returns c =
    front-is c.args.xs.now c.args.n c.within-e.result c.within-e.ensures
