-- The greater of two i64s meets its contract. Assumes nothing.
use Rattle.std.proofs.Common.{◌∙◌}
use lib.Signed.{lt_z}
use Rattle.integers.proofs.Range.{held, first_taken, first-left}
use Rattle.numbers.proofs.I64Number.greater.Goals as goal

pub returns-then-self-other : goal.returns-then-self-other
returns-then-self-other c =
    held c.args.other c.ranges.other
    ∙ first_taken c.args.self c.args.other (λ v a. lt_z a v) c.ranges.self c.ranges.other c.if-self-other.true

pub returns-else-self-other : goal.returns-else-self-other
returns-else-self-other c =
    held c.args.self c.ranges.self
    ∙ first-left c.args.self c.args.other (λ v a. lt_z a v) c.ranges.self c.ranges.other c.if-self-other.false
