-- A point of i64 values as one of f64 with the same counts, switch and threshold, that shows 0.0 where the other shows an extreme and has the
-- sum 0.0: all refusals but 16 are the same of both, and so are merged counts (the laws of proofs/Shadow.antt). Assumes nothing.
use Rattle.floats.specs.Starts.{zero_float}
use Rattle.std.specs.Prelude.{Option, Some, None, Float, ℤ}
use Rattle.points.specs.Any.{Handed}
use Rattle.points.specs.Real.{real}
use Rattle.points.specs.Whole.{whole}

abbrev pub shadow_of : Option ℤ → Option Float
shadow_of None = None
shadow_of (Some x) = Some zero_float

abbrev pub shadow : Handed whole → Handed real
shadow p =
    record { counts = p.counts; extremes = p.extremes; threshold = p.threshold; min = shadow_of p.min; max = shadow_of p.max; sum = zero_float }
