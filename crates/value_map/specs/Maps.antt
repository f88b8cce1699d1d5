-- The map that is held, as tally's: what it stands for, and what a configuration is there. Assumes nothing.
use Rattle.std.specs.Prelude.{ℕ, List}
use Rattle.std.proofs.Math.Option.{Option}
use Rattle.tally.specs.Kind.{Kind}
use Rattle.tally.specs.Map.{Config, Map}
use Rattle.directory.specs.View.{view}
use Rattle.value_map.specs.Store.{Store}
use Rattle.value_map.specs.Calls.{Held}

module _ {K : Kind} (S : Store K) (w : S.Switches) where
  -- the slots' series, where their entries were updated
  abbrev pub map_of : Held S.Cells → Map K
  map_of h = view K (S.at h.cells) (S.settings w) h.kept.dir h.kept.stores

  abbrev pub config_of : ℕ → Option (List ℕ) → Config K
  config_of limit filter = record { settings = S.settings w; limit = limit; filter = filter }
