-- Configuring a map of the exponential kind as its caller knows it, by a signed max_scale. Assumes nothing.
use Rattle.std.specs.Prelude.{ℕ, suc, Bool, List, ℤ, Some, None}
use Rattle.std.specs.Prelude as Std
use Rattle.std.proofs.Math.Option.{Option}
use Rattle.index.specs.Bins.{finest}
use Rattle.index.specs.Signed.{level_answer}
use Rattle.directory.specs.View.{Stores}
use Rattle.directory.specs.declared.Directory.{Directory}
use Rattle.exponential_slots.specs.Cells.{Cells}
use Rattle.value_map.specs.Exponential.{exponential_store}
use Rattle.collecting.specs.Configured.{Configuring, configured_as}
use Rattle.exponential_collection.specs.declared.Setup.{Setup}

-- the greatest level of a max_scale; one above the finest, which number 2 refuses, where there is none
abbrev pub level_or : Std.Option ℕ → ℕ
level_or None = suc finest
level_or (Some n) = n

abbrev pub top_of : ℤ → ℕ
top_of scale = level_or (level_answer scale)

-- what is handed out: the settings, with the map's state
abbrev pub setup_of : ℕ → ℕ → Bool → Bool → ℕ → Directory → Setup
setup_of size top extremes sums limit d = record { settings = record { size = size; top = top; extremes = extremes; sums = sums; limit = limit }; dir = d }

-- "Configuring: 1, 2, 3, 4, 12"
unfoldable pub configured : ℕ → ℤ → Bool → Bool → ℕ → Option (List ℕ) → Stores → Cells → Configuring Setup
configured size scale extremes sums limit filter s c =
    configured_as (exponential_store size (top_of scale)) (setup_of size (top_of scale) extremes sums limit) limit filter s c
