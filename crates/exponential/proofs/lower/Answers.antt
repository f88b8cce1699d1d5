use Rattle.std.proofs.Common.{arith}
use Rattle.exponential.proofs.Rowed.{laid_same}
use Rattle.exponential.proofs.lower.Goals as goal

pub returns-then-k-eq0 : goal.returns-then-k-eq0
returns-then-k-eq0 c =
    laid_same c.args.row c.args.counts.now c.args.k c.if-k-eq0.true (omega (arith, c))

pub returns : goal.returns
returns c =
    record { start = c.downscale.ensures.start_value; len = c.downscale.ensures.len_value; now = c.downscale.ensures.counts_after }
