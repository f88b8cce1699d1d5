-- `replay_state::lent::values_in` meets its contract. Assumes nothing.
use Rattle.listing.proofs.Cases.{some_is}
use Rattle.replay_state.proofs.lent.values_in.Goals as goal

pub returns : goal.returns
returns c =
    let a = c.args in
    some_is a.xs.now 2200 c.within-a.result c.within-a.ensures a.n c.within.result c.within.ensures
