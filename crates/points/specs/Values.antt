-- What a series keeps of f64 values: the class of each, and minimum, maximum and sum. Assumes nothing.
use Rattle.std.specs.Prelude.{true, List, Float}
unfoldable pub use Rattle.points.specs.Classes.{class_of}
pub use Rattle.points.specs.Classes.{counts_of}
use Rattle.points.specs.Any
use Rattle.points.specs.Real.{real}

abbrev pub Summary : Type 0
Summary = Any.Summary real

abbrev pub start : Summary
start = Any.start real

-- no sum of f64s depends on the sum's switch
abbrev pub noted : Summary → Float → Summary
noted = Any.noted real true

abbrev pub summary_of : List Float → Summary
summary_of = Any.summary_of real true
