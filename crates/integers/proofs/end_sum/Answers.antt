-- `end_sum` meets its contract. Assumes nothing.
use Rattle.std.proofs.Common.{lit<}
use Rattle.integers.proofs.Range.{low_need, high_need, low-outside, high-outside, low-fine, high-fine, low-inside, high-inside}
use Rattle.integers.proofs.end_sum.Goals as goal

pub overflow_sub-v : goal.overflow_sub-v
overflow_sub-v c = low_need c.args.a c.args.v c.ranges.a c.ranges.v c.if-v-lt0.true

pub returns-then-a-v : goal.returns-then-a-v
returns-then-a-v c = low-outside c.args.a c.args.v c.ranges.a c.ranges.v c.if-v-lt0.true c.if-a-v.true

pub overflow_add-result : goal.overflow_add-result
overflow_add-result c = low-fine c.args.a c.args.v c.ranges.a c.ranges.v c.if-v-lt0.true c.if-a-v.false

pub returns-then-v-lt0 : goal.returns-then-v-lt0
returns-then-v-lt0 c = low-inside c.args.a c.args.v c.ranges.a c.ranges.v c.if-v-lt0.true c.if-a-v.false

pub overflow_sub-v-2 : goal.overflow_sub-v-2
overflow_sub-v-2 c = high_need c.args.a c.args.v c.ranges.a c.ranges.v _ (lit< tt) c.if-v-lt0.false

pub returns-then-v-a : goal.returns-then-v-a
returns-then-v-a c = high-outside c.args.a c.args.v c.ranges.a c.ranges.v c.if-v-lt0.false c.if-v-a.true

pub overflow_add-result-2 : goal.overflow_add-result-2
overflow_add-result-2 c = high-fine c.args.a c.args.v c.ranges.a c.ranges.v c.if-v-lt0.false c.if-v-a.false

pub returns : goal.returns
returns c = high-inside c.args.a c.args.v c.ranges.a c.ranges.v c.if-v-lt0.false c.if-v-a.false
