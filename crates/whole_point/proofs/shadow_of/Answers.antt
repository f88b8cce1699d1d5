-- `shadow_of` meets its contract. Assumes nothing.
use Rattle.floats.specs.Starts.{zero_float}
use Rattle.whole_point.proofs.shadow_of.Goals as goal

pub returns : goal.returns
returns c =
    λ j. record {
      figures = c.args.p.figures;
      extremes = c.args.p.extremes;
      min = c.shadow_extreme-low.ensures j;
      max = c.shadow_extreme-high.ensures j;
      sum = zero_float;
    }
