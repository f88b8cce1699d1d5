use native.Mathlib.Omega.{arith}
use lib.Ieee.{of_bits, neg}
use Rattle.explicit.proofs.Writes.{fresh-short, fresh-made}
use Rattle.explicit.proofs.fresh.Goals as goal

pub returns-then-counts-n : goal.returns-then-counts-n
returns-then-counts-n c =
    let a = c.args in
    fresh-short a.bounds.now a.counts.now (omega (arith, c.if-counts-n.true, c.bucket_count-n.ensures))

pub zero-requires : goal.zero-requires
zero-requires c = (omega arith, omega (arith, c.if-counts-n.false))

pub returns : goal.returns
unfolding of_bits neg
returns c =
    let a = c.args in
    fresh-made a.bounds.now a.counts.now c.bucket_count-n.result c.zero.new.counts c.bucket_count-n.ensures (omega (arith, c.if-counts-n.false, c.bucket_count-n.ensures)) c.zero.ensures
