-- The store of sums and last values: one f64 a slot. Assumes nothing.
use Rattle.std.specs.Prelude.{ℕ, ◌+◌, ◌<◌, Bool, List, leb, length, get_or, set, Float}
use Rattle.std.specs.Float.{nan}
use Rattle.laws.specs.Pick.{pick}
use Rattle.floats.specs.Starts.{zero_float}
use Rattle.rows.specs.Recording.{Recording, after}
use Rattle.value_map.specs.Store.{Store}
use Rattle.singles.specs.declared.Aggregation.{Aggregation}
use Rattle.singles.specs.Kinds.{step, holds, singles}

-- what slot x holds, where its entry was updated; else the start, 0.0
abbrev pub held_at : List Float → ℕ → Bool → Float
held_at c x updated = pick updated (get_or c x nan) zero_float

-- a value recorded at slot x: 8, or the slot holds what the value makes of it
unfoldable pub recorded_at : Aggregation → ℕ → Bool → List Float → Float → Recording (List Float)
recorded_at a x updated c v =
    let y = held_at c x updated in pick (holds a y) (after 0 (set c x (step a y v))) (after 8 c)

-- no settings, so none that configuring refuses; "12: .. any other lent store under limit + 2 entries"
abbrev pub single_store : (a : Aggregation) → Store (singles a)
single_store a =
    record {
      Switches = Unit;
      settings = λ w. w;
      unset = 0;
      Cells = List Float;
      suffices = λ limit c. leb (limit + 2) (length c);
      Room = λ c x. x < length c;
      at = λ c x. get_or c x nan;
      recorded = recorded_at a;
    }
