-- Configuring a map of the exponential kind over i64 as its caller knows it. What is handed out is as over f64. Assumes nothing.
use Rattle.std.specs.Prelude.{ℕ, Bool, List, ℤ}
use Rattle.std.proofs.Math.Option.{Option}
use Rattle.directory.specs.View.{Stores}
use Rattle.exponential_whole_slots.specs.Cells.{Cells}
use Rattle.whole_map.specs.Exponential.{exponential_wholes}
use Rattle.collecting.specs.Configured.{Configuring, configured_as}
use Rattle.exponential_collection.specs.declared.Setup.{Setup}
use Rattle.exponential_collection.specs.Configured.{top_of, setup_of}

-- "Configuring: 1, 2, 3, 4, 12"
unfoldable pub configured : ℕ → ℤ → Bool → Bool → ℕ → Option (List ℕ) → Stores → Cells → Configuring Setup
configured size scale extremes sums limit filter s c =
    configured_as (exponential_wholes size (top_of scale) sums) (setup_of size (top_of scale) extremes sums limit) limit filter s c
