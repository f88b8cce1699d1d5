-- Configuring a map of the explicit kind over i64 as its caller knows it. Assumes nothing.
use Rattle.std.specs.Prelude.{ℕ, Bool, List, Float}
use Rattle.std.proofs.Math.Option.{Option}
use Rattle.directory.specs.View.{Stores}
use Rattle.explicit_whole_slots.specs.Cells.{Cells}
use Rattle.whole_map.specs.Explicit.{explicit_wholes}
use Rattle.collecting.specs.Configured.{Configuring, configured_as}
use Rattle.explicit_collection.specs.declared.Setup.{Setup}

-- "Configuring: 1, 2, 3, 4, 12"
unfoldable pub configured : List Float → Bool → Bool → ℕ → Option (List ℕ) → Stores → Cells → Configuring Setup
configured bounds extremes sums limit filter s c =
    configured_as (explicit_wholes bounds sums) (λ d. record { settings = record { extremes = extremes; sums = sums; limit = limit }; dir = d }) limit filter s c
