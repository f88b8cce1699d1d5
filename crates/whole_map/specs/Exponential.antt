-- The exponential kind's store over i64. Assumes nothing.
use Rattle.std.specs.Prelude.{ℕ, Bool, [], ◌∷◌, length}
use Rattle.kinds.specs.Wholes.{wholes}
use Rattle.value_map.specs.Store.{Store, lengths_suffice}
use Rattle.value_map.specs.Exponential.{unset}
use Rattle.exponential_whole_slots.specs.Cells.{Cells, Room, settings, series_at, recorded_at}

abbrev pub cells_suffice : ℕ → ℕ → Cells → Bool
cells_suffice size limit c = lengths_suffice size limit (length c.pos ∷ length c.neg ∷ []) (length c.figures ∷ length c.extremes ∷ [])

-- Recording reads the sum's switch ("with the sum off none is kept"): it is no switch of the store's, as extremes are
abbrev pub exponential_wholes : ℕ → ℕ → Bool → Store wholes
exponential_wholes size top sums =
    record {
      Switches = Bool;
      settings = settings size top sums;
      unset = unset size top;
      Cells = Cells;
      suffices = cells_suffice size;
      Room = Room size;
      at = series_at size;
      recorded = recorded_at size top sums;
    }
