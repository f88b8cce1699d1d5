-- `explicit_point` meets its contract. Assumes nothing.
use mathlib.Core.Path.{ap, ◌∙◌}
use borrow.Author.Rules.{rules}
use lib.IntN.{ℤ, pos}
use mir.Syntax.{w64}
use mir.Val.{SFits}
use Rattle.laws.specs.Pick.{pick}
use Rattle.integers.specs.Answers.{shown_of}
use Rattle.integers.proofs.Range.{held}
use Rattle.point.specs.declared.Figures.TheVariants.{Explicit}
use Rattle.whole_point.proofs.explicit_point.Goals as goal

pub returns : goal.returns
returns c =
    let least : SFits w64 c.args.head.min = search rules in
    let greatest : SFits w64 c.args.head.max = search rules in
    let sum : SFits w64 c.args.head.sum = search rules in
    let r : SFits w64 c.shown_sum-total.result = search rules in
    λ j. record {
      figures = Explicit c.args.head.count;
      extremes = c.args.extremes;
      min = (c.shown-low.ensures ∙ ap (shown_of c.args.extremes c.args.head.count) (held c.args.head.min (least))) j;
      max = (c.shown-high.ensures ∙ ap (shown_of c.args.extremes c.args.head.count) (held c.args.head.max (greatest))) j;
      sum = (held c.shown_sum-total.result r ∙ c.shown_sum-total.ensures ∙ ap (λ (z : ℤ). pick c.args.sums z (pos 0)) (held c.args.head.sum (sum))) j;
    }
