-- The explicit kind's points over i64 in lent output. Assumes nothing.
use Rattle.std.specs.Prelude.{Bool, List, [], Float}
use Rattle.explicit_whole_slots.specs.Cells.{head_at, counts_at}
use Rattle.whole_point.specs.Handing.{explicit_point}
use Rattle.whole_map.specs.Explicit.{explicit_wholes}
use Rattle.collecting.specs.Lister.{Lister}
use Rattle.whole_listing.specs.Read.{whole_lister}

-- a slot's point with its bounds, and its counts
abbrev pub explicit_whole_lister : (bounds : List Float) (sums : Bool) → Lister (explicit_wholes bounds sums)
explicit_whole_lister bounds sums =
    whole_lister (explicit_wholes bounds sums) (λ c. c.extremes) bounds (λ w c x u. explicit_point (head_at c x u) w sums) (counts_at bounds) (λ c x u. [])
