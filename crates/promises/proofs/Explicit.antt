-- The explicit kind pays what is owed of its points in lent output: they are stored points, under the bounds that were configured, and recording keeps
-- cells that can be lent. Assumes nothing.
use mathlib.Core.Path.{refl}
use mathlib.Core.Bool.{Bool}
use mathlib.Core.List.{List, []}
use lib.Ieee.{Float}
use Rattle.explicit_slots.specs.Cells.{head_at, counts_at}
use Rattle.point.specs.Handing.{stored_in, explicit_point}
use Rattle.listing.specs.Listed.{bounds_at}
use Rattle.collecting.specs.Read.{span_of}
use Rattle.explicit_collection.specs.Points.{explicit_lister}
use Rattle.explicit_collection.proofs.Lists.{finds, explicit-lists}
use Rattle.explicit_collection.proofs.Lent.{recording-keeps}
use Rattle.collecting.proofs.Owed.{Lists}
use Rattle.promises.specs.Numbers.{reals}
use Rattle.promises.proofs.Runs.{Keeps}
use Rattle.promises.proofs.Stored.{Storing}

pub keeps : (bounds : List Float) → Keeps (explicit_lister bounds)
keeps bounds c x u v f l = recording-keeps bounds v f.value x u c l

pub lists : (bounds : List Float) (extremes sums : Bool) → Lists (explicit_lister bounds) (extremes, sums)
lists bounds extremes sums c x u on l r s = explicit-lists bounds extremes sums c x u l r

pub storing : (bounds : List Float) → Storing reals (explicit_lister bounds) bounds
storing bounds =
    record {
      found = λ at o. refl;
      stored = λ w c x u. stored_in (explicit_point (head_at c x u) w.0 w.1) (bounds_at (span_of bounds) bounds) (counts_at bounds c x u) [];
      lies = λ w c x u on l r s. (refl, finds bounds w.0 w.1 c x u l r);
    }
