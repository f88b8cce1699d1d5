-- `finish` meets its contract. Assumes nothing.
use Rattle.integers.proofs.Range.{held}
use Rattle.whole_point.proofs.finish.Goals as goal

pub returns : goal.returns
returns c =
    λ j. record {
      figures = c.args.counted.figures;
      extremes = c.args.a.extremes;
      min = c.smaller-min.ensures j;
      max = c.larger-max.ensures j;
      sum = held c.args.s c.ranges.s j;
    }
