-- `of_bits` meets its contract. Assumes nothing.
use Rattle.std.proofs.Common.{arith}
use Rattle.integers.proofs.Range.{low_bits, back_fits, back-bits}
use Rattle.integers.proofs.of_bits.Goals as goal

pub returns-then-bits-lt9223372036854775808 : goal.returns-then-bits-lt9223372036854775808
returns-then-bits-lt9223372036854775808 c = low_bits c.args.bits (omega arith)

pub overflow_sub-result-2 : goal.overflow_sub-result-2
overflow_sub-result-2 c = back_fits c.args.bits (omega arith) (omega arith)

pub returns : goal.returns
returns c = back-bits c.args.bits (omega arith) (omega arith)
