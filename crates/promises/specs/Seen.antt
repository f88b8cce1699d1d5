-- Scale and offsets as a person sees them: the signed numbers that a stored point shows are those of document 01's point of the values. Assumes nothing.
use Rattle.std.specs.Prelude.{◌-◌, ◌≡◌, true, false, List, Float, Some, None}
use Rattle.index.specs.Bins.{finest}
use Rattle.points.specs.Points.{Point}
use Rattle.points.specs.Signed.{scale_in, offset_in}
use Rattle.points.specs.Values.{counts_of}
use Rattle.points.specs.Figures.{Kind, exponential, explicit}
use Rattle.point.specs.declared.Figures.{Figures}
use Rattle.point.specs.Signed.{scale_shown, offset_shown}

pub record Seen (p : Point) (f : Figures) : Type 0 where
  pub scale : scale_shown f ≡ Some (scale_in p)
  pub pos : offset_shown false f ≡ Some (offset_in p p.pos)
  pub neg : offset_shown true f ≡ Some (offset_in p p.neg)

-- of a point of the values, under a kind and zero threshold; "Explicit points have bucket counts, no scale, rows or zero count"
abbrev pub Shows : Kind → Float → List Float → Figures → Type 0
Shows (exponential size top) t vs f = Seen (counts_of size (finest - top) t vs) f
Shows (explicit bounds) t vs f = scale_shown f ≡ None
