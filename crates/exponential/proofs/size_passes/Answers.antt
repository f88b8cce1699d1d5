use Rattle.std.proofs.Common.{sym, refl, arith, le-leb}
use borrow.Author.Tests.{lt-leb}
use Rattle.exponential.proofs.size_passes.Goals as goal

pub returns-then-size-lt-LEAST_SIZE : goal.returns-then-size-lt-LEAST_SIZE
returns-then-size-lt-LEAST_SIZE c = sym (rw (lt-leb 3 c.args.size c.if-size-lt-LEAST_SIZE.true) refl)

pub returns : goal.returns
returns c = sym (rw (le-leb 3 c.args.size (omega (arith, c.if-size-lt-LEAST_SIZE.false))) refl)
