-- `listing::put::cursor_behind` meets its contract. Assumes nothing.
use Prim.Native.Nat.{◌+◌}
use Rattle.listing.proofs.put.cursor_behind.Goals as goal

pub returns : goal.returns
returns c =
    let a = c.args in
    λ i. record { place = a.at.place + 1; pos = a.at.pos + c.pos_len-n.ensures i; neg = a.at.neg + c.neg_len-m.ensures i }
