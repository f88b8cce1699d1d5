-- The two histogram kinds of document 01, over f64, as one kind of series. Assumes nothing.
use Rattle.points.specs.Real.{real}
use Rattle.points.specs.Handed.{handed}
use Rattle.tally.specs.Kind as Tally
pub use Rattle.kinds.specs.Any.{passes, counts_hold}
use Rattle.kinds.specs.Any.{histograms_of}

-- a value is an f64. Nothing is refused after 9
abbrev pub histograms : Tally.Kind
histograms = histograms_of real handed
