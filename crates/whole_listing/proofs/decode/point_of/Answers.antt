-- `whole_listing::decode::point_of` meets its contract. Assumes nothing.
use mathlib.Core.Path.{◌∙◌}
use borrow.Author.Rules.{rules}
use mir.Syntax.{w64}
use mir.Val.{SFits}
use Rattle.integers.proofs.Range.{held}
use Rattle.whole_listing.proofs.decode.point_of.Goals as goal

pub returns : goal.returns
returns c =
    let a = c.args in
    let r : SFits w64 c.of_bits-sum.result = search rules in
    λ i. record {
      figures = a.shadow.figures;
      extremes = a.shadow.extremes;
      min = c.extreme_of-min.ensures i;
      max = c.extreme_of-max.ensures i;
      sum = (held c.of_bits-sum.result r ∙ c.of_bits-sum.ensures) i;
    }
