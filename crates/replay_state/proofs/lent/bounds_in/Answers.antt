-- `replay_state::lent::bounds_in` meets its contract. Assumes nothing.
use Prim.Native.Nat.{ℕ, min, ◌*◌}
use mathlib.Core.Path.{ap, ◌∙◌}
use lib.ListN.{take, drop}
use Rattle.listing.proofs.Cases.{some_is}
use Rattle.replay_state.proofs.lent.bounds_in.Goals as goal

pub returns : goal.returns
returns c =
    let a = c.args in
    let xs = a.bounds.now in
    some_is xs (200 * c.within.result) c.within-a.result c.within-a.ensures c.within-2.result c.within-3.result c.within-3.ensures
    ∙ ap (λ (k : ℕ). take k (drop (200 * c.within.result) xs)) c.within-2.ensures
    ∙ ap (λ (k : ℕ). take (min a.n 200) (drop (200 * k) xs)) c.within.ensures
