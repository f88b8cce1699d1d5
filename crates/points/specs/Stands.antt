-- A point of f64 values that stands for a list of them. Assumes nothing.
use Rattle.std.specs.Prelude.{List, Float}
pub use Rattle.points.specs.Real.{SumStands}
use Rattle.points.specs.Figures.{Settings}
use Rattle.points.specs.Handed.{Handed}
use Rattle.points.specs.Any
use Rattle.points.specs.Real.{real}

abbrev pub Stands : Settings → Handed → List Float → Type 0
Stands = Any.Stands real
