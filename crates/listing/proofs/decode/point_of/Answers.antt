-- `listing::decode::point_of` meets its contract. Assumes nothing.
use Rattle.listing.specs.Words.{point_in}
use Rattle.listing.proofs.decode.point_of.Goals as goal

pub returns : goal.returns
unfolding point_in
returns c =
    cc
