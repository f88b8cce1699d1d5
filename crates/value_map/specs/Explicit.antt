-- The explicit kind's store. Assumes nothing.
use Rattle.std.specs.Prelude.{ℕ, Bool, List, [], ◌∷◌, length, Float}
use Rattle.laws.specs.Pick.{pick}
use Rattle.points.specs.Explicit.{bounds_pass, bucket_count}
use Rattle.points.specs.Figures.{explicit, settings_of}
use Rattle.kinds.specs.Histograms.{histograms}
use Rattle.explicit_slots.specs.Cells.{Cells, Room, series_at, recorded_at}
use Rattle.value_map.specs.Store.{Store, lengths_suffice}

abbrev pub cells_suffice : List Float → ℕ → Cells → Bool
cells_suffice bounds limit c = lengths_suffice (bucket_count bounds) limit (length c.counts ∷ []) (length c.totals ∷ length c.extremes ∷ [])

-- the switches: extremes and sums. The zero threshold, which this kind has no use for, is 0.0
abbrev pub explicit_store : List Float → Store histograms
explicit_store bounds =
    record {
      Switches = Bool × Bool;
      settings = λ w. settings_of (explicit bounds) w.0 w.1;
      unset = pick (bounds_pass bounds) 0 3;
      Cells = Cells;
      suffices = cells_suffice bounds;
      Room = Room bounds;
      at = series_at bounds;
      recorded = recorded_at bounds;
    }
