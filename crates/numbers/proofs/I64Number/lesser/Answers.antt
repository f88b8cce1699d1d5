-- The lesser of two i64s meets its contract. Assumes nothing.
use Rattle.std.proofs.Common.{◌∙◌}
use lib.Signed.{lt_z}
use Rattle.integers.proofs.Range.{held, first_taken, first-left}
use Rattle.numbers.proofs.I64Number.lesser.Goals as goal

pub returns-then-other-self : goal.returns-then-other-self
returns-then-other-self c =
    held c.args.other c.ranges.other ∙ first_taken c.args.self c.args.other lt_z c.ranges.self c.ranges.other c.if-other-self.true

pub returns-else-other-self : goal.returns-else-other-self
returns-else-other-self c =
    held c.args.self c.ranges.self ∙ first-left c.args.self c.args.other lt_z c.ranges.self c.ranges.other c.if-other-self.false
