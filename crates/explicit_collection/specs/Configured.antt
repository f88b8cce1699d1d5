-- Configuring a map of the explicit kind as its caller knows it. Assumes nothing.
use Rattle.std.specs.Prelude.{ℕ, Bool, List, Float}
use Rattle.std.proofs.Math.Option.{Option}
use Rattle.directory.specs.View.{Stores}
use Rattle.explicit_slots.specs.Cells.{Cells}
use Rattle.value_map.specs.Explicit.{explicit_store}
use Rattle.collecting.specs.Configured.{Configuring, configured_as}
use Rattle.explicit_collection.specs.declared.Setup.{Setup}

-- "Configuring: 1, 2, 3, 4, 12"
unfoldable pub configured : List Float → Bool → Bool → ℕ → Option (List ℕ) → Stores → Cells → Configuring Setup
configured bounds extremes sums limit filter s c =
    configured_as (explicit_store bounds) (λ d. record { settings = record { extremes = extremes; sums = sums; limit = limit }; dir = d }) limit filter s c
