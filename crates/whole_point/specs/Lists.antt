-- The points of i64 values as code has them. Assumes nothing.
use Rattle.points.specs.Coded.{Coded}
use Rattle.points.specs.Whole.{whole}
use Rattle.whole_point.specs.Handing.{Stored, handed_in, in_shape, merging}

abbrev pub whole_points : Coded whole
whole_points =
    record { Stored = Stored; handed_in = handed_in; in_shape = in_shape; merging = λ size x y us vs. (merging size x y us vs).answer }
