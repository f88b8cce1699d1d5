-- The exponential kind's store. Assumes nothing.
use Rattle.std.specs.Prelude.{ℕ, Bool, [], ◌∷◌, leb, length}
use Rattle.laws.specs.Pick.{pick}
use Rattle.index.specs.Bins.{finest}
use Rattle.points.specs.Figures.{size_passes}
use Rattle.kinds.specs.Histograms.{histograms}
use Rattle.exponential_slots.specs.Cells.{Cells, Room, recorded_at}
use Rattle.exponential_slots.specs.Meaning.{settings, series_at}
use Rattle.value_map.specs.Store.{Store, lengths_suffice}

abbrev pub cells_suffice : ℕ → ℕ → Cells → Bool
cells_suffice size limit c = lengths_suffice size limit (length c.pos ∷ length c.neg ∷ []) (length c.figures ∷ length c.extremes ∷ [])

-- "1: max_size ..; 2: max_scale ..", the level being the scale + 10
unfoldable pub unset : ℕ → ℕ → ℕ
unset size top = pick (size_passes size) (pick (leb top finest) 0 2) 1

-- the switches: extremes and sums
abbrev pub exponential_store : ℕ → ℕ → Store histograms
exponential_store size top =
    record {
      Switches = Bool × Bool;
      settings = λ w. settings size top w.0 w.1;
      unset = unset size top;
      Cells = Cells;
      suffices = cells_suffice size;
      Room = Room size;
      at = series_at size;
      recorded = recorded_at size top;
    }
