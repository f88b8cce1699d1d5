-- What is counted of f64 values: the class of each. Assumes nothing.
-- Document 01, "Bucket, scale and point".
use Rattle.std.specs.Prelude.{ℕ, List, map, leb, Float}
use Rattle.laws.specs.Pick.{pick}
use Rattle.index.specs.Magnitude.{magnitude, is_negative}
use Rattle.index.specs.Bins.{finest_bin}
use Rattle.points.specs.Points.{Value, naught, plus, minus, Point, point_of}

-- "Zero of either sign raises only the zero count": a magnitude at or below the zero threshold's is a zero (the threshold is 0.0);
-- any other value has its sign and the finest bin of its magnitude
unfoldable pub class_of : Float → Float → Value
class_of threshold v =
    pick (leb (magnitude v) (magnitude threshold))
    naught
    (pick (is_negative v) (minus (finest_bin (magnitude v))) (plus (finest_bin (magnitude v))))

-- the scale, rows and counts of a list of values, no finer than d steps below the finest level
abbrev pub counts_of : ℕ → ℕ → Float → List Float → Point
counts_of size d threshold vs = point_of size d (map (class_of threshold) vs)
