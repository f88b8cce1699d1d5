-- The points of f64 values as code has them: of a list; rows with room for any such point. Assumes nothing.
use Rattle.std.specs.Prelude.{ℕ, ◌≤◌, ◌≡◌, true, List, length, Float}
use Rattle.points.specs.Explicit.{bounds_pass, bucket_count}
use Rattle.points.specs.Figures.{Kind, exponential, explicit, size_passes, Settings}
use Rattle.points.specs.Real.{real}
use Rattle.points.specs.Coded as Coded
use Rattle.points.specs.Coded.{Coded}
use Rattle.point.specs.Handing.{Stored, handed_in, in_shape, merging}

abbrev pub real_points : Coded real
real_points =
    record { Stored = Stored; handed_in = handed_in; in_shape = in_shape; merging = λ size x y us vs. (merging size x y us vs).answer }

-- x is document 01's point of the values under the settings, and in shape
abbrev pub PointOf : Settings → List Float → Stored → Type 0
PointOf = Coded.PointOf real_points

-- the kind could be configured
abbrev pub Configured : Kind → Type 0
Configured (exponential size top) = size_passes size ≡ true
Configured (explicit bounds) = bounds_pass bounds ≡ true

-- room for the point of any list: max_size counts for each sign, or a count for each bucket
abbrev pub Long : Kind → List ℕ → List ℕ → Type 0
Long (exponential size top) us vs = (size ≤ length us) × (size ≤ length vs)
Long (explicit bounds) us vs = bucket_count bounds ≤ length us
