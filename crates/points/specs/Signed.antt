-- Scale and offsets of a point as a person sees them, signed. Assumes nothing.
use Rattle.std.specs.Prelude.{◌-◌, eqb, length, ℤ, pos}
use Rattle.laws.specs.Pick.{pick}
use Rattle.index.specs.Bins.{finest, scale_of, index_of}
use Rattle.points.specs.Points.{Row, Point}

-- the scale of a point that is so many steps below the finest level, from 10 to -10
abbrev pub scale_in : Point → ℤ
scale_in p = scale_of (finest - p.d)

-- the offset of one of its rows: the index of its first bucket; "an empty row has offset 0"
abbrev pub offset_in : Point → Row → ℤ
offset_in p r = pick (eqb (length r.counts) 0) (pos 0) (index_of (finest - p.d) r.start)
