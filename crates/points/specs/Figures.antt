-- What a series of either kind holds of f64 values: its counts beside minimum, maximum and sum. Assumes nothing.
use Rattle.std.specs.Prelude.{List, Float}
pub use Rattle.points.specs.Counts.{Kind, exponential, explicit, most_size, size_passes, Settings, settings_of, Counts, exponential_counts, explicit_counts, kind_counts, record_counts}
use Rattle.points.specs.Any
use Rattle.points.specs.Real.{real}

-- a series holds minimum, maximum and sum whatever the switches say: they act where a point is handed out
abbrev pub Figures : Type 0
Figures = Any.Figures real

-- of a list of values
abbrev pub figures_of : Settings → List Float → Figures
figures_of = Any.figures_of real

abbrev pub record_figures : Settings → Figures → Float → Figures
record_figures = Any.record_figures real
