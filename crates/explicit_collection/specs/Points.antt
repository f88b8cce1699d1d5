-- The explicit kind's points in lent output. Assumes nothing.
use Rattle.std.specs.Prelude.{List, [], Float}
use Rattle.explicit_slots.specs.Cells.{head_at, counts_at}
use Rattle.point.specs.Handing.{explicit_point}
use Rattle.value_map.specs.Explicit.{explicit_store}
use Rattle.collecting.specs.Lister.{Lister}
use Rattle.collecting.specs.Read.{histogram_lister}

-- a slot's point with its bounds, and its counts
abbrev pub explicit_lister : (bounds : List Float) → Lister (explicit_store bounds)
explicit_lister bounds =
    histogram_lister (explicit_store bounds) (λ c. c.extremes) bounds (λ w c x u. explicit_point (head_at c x u) w.0 w.1) (counts_at bounds) (λ c x u. [])
