-- `bits_of` meets its contract. Assumes nothing.
use Rattle.integers.proofs.Range.{turned-fits, turned-natural, turned_le, turned-bits, plain-natural, plain-bits}
use Rattle.integers.proofs.bits_of.Goals as goal

pub overflow_sub-result : goal.overflow_sub-result
overflow_sub-result c = turned-fits c.args.x c.ranges.x c.if-x-lt0.true

pub overflow_cast-result : goal.overflow_cast-result
overflow_cast-result c = turned-natural c.args.x c.ranges.x c.if-x-lt0.true

pub overflow_sub-result-then-x-lt0 : goal.overflow_sub-result-then-x-lt0
overflow_sub-result-then-x-lt0 c = turned_le c.args.x c.ranges.x c.if-x-lt0.true

pub returns-then-x-lt0 : goal.returns-then-x-lt0
returns-then-x-lt0 c = turned-bits c.args.x c.ranges.x c.if-x-lt0.true

pub overflow_cast-result-2 : goal.overflow_cast-result-2
overflow_cast-result-2 c = plain-natural c.args.x c.ranges.x c.if-x-lt0.false

pub returns : goal.returns
returns c = plain-bits c.args.x c.ranges.x c.if-x-lt0.false
