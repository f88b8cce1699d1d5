-- `is_between` meets its contract. Assumes nothing.
use Rattle.std.proofs.Common.{sym, ◌∙◌}
use lib.Signed.{lt_z}
use Rattle.laws.proofs.Bools.{pick_true, pick-false}
use Rattle.integers.proofs.Range.{held}
use Rattle.integers.proofs.is_between.Goals as goal

pub returns-then-n-low : goal.returns-then-n-low
returns-then-n-low c =
    sym (pick_true _ _ _ (sym (λ j. lt_z (held c.args.n c.ranges.n j) (held c.args.low c.ranges.low j)) ∙ c.if-n-low.true))

pub returns : goal.returns
returns c =
    (λ j. lt_z (held c.args.n c.ranges.n j) (held c.args.end c.ranges.end j))
    ∙ sym (pick-false _ _ _ (sym (λ j. lt_z (held c.args.n c.ranges.n j) (held c.args.low c.ranges.low j)) ∙ c.if-n-low.false))
