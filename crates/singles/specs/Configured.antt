-- Configuring a map of sums or last values as its caller knows it. Assumes nothing.
use Rattle.std.specs.Prelude.{ℕ, List, Float}
use Rattle.std.proofs.Math.Option.{Option}
use Rattle.directory.specs.View.{Stores}
use Rattle.collecting.specs.Configured.{Configuring, configured_as}
use Rattle.singles.specs.Stores.{single_store}
use Rattle.singles.specs.declared.Aggregation.{Aggregation}
use Rattle.singles.specs.declared.Setup.{Setup}

-- "Configuring: 1, 2, 3, 4, 12", of which there are 4 and 12
unfoldable pub configured : Aggregation → ℕ → Option (List ℕ) → Stores → List Float → Configuring Setup
configured a limit filter s c =
    configured_as (single_store a) (λ d. record { settings = record { aggregation = a; limit = limit }; dir = d }) limit filter s c
