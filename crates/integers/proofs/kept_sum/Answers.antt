-- `kept_sum` meets its contract. Assumes nothing.
use Rattle.std.proofs.Common.{sym, ap, ◌∙◌}
use Rattle.laws.proofs.Bools.{pick_true, pick-false}
use Rattle.integers.specs.Answers.{sum_of}
use Rattle.std.specs.Prelude.{Some}
use Rattle.integers.proofs.Range.{held}
use Rattle.integers.proofs.kept_sum.Goals as goal

pub returns-then-on : goal.returns-then-on
returns-then-on c =
    c.sum.ensures
    ∙ (λ j. sum_of (held c.args.held c.ranges.held j) (held c.args.v c.ranges.v j))
    ∙ sym (pick_true _ _ _ c.if-on.true)

pub returns : goal.returns
returns c = ap Some (held c.args.held c.ranges.held) ∙ sym (pick-false _ _ _ c.if-on.false)
