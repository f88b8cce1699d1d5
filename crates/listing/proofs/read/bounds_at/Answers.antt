-- `listing::read::bounds_at` meets its contract. Assumes nothing.
use Rattle.listing.proofs.Cases.{some_is}
use Rattle.listing.proofs.read.bounds_at.Goals as goal

pub returns : goal.returns
returns c =
    let a = c.args in
    some_is a.bounds.now a.b.start c.shorter-i.result c.shorter-i.ensures a.b.len c.shorter-n.result c.shorter-n.ensures
