use Prim.Native.Nat.{◌<◌}
use native.Mathlib.Omega.{arith}
use lib.ListN.{length}
use Rattle.explicit.proofs.Writes.{no-bucket, bucket_in, one_more, one-fits}
use Rattle.explicit.proofs.count_in.Goals as goal

pub returns-then-bounds-eq0 : goal.returns-then-bounds-eq0
returns-then-bounds-eq0 c =
    no-bucket c.args.bounds.now c.args.counts.now c.args.v c.requires.bounds_in_bounds c.if-bounds-eq0.true

pub offset_bounds-counts-k : goal.offset_bounds-counts-k
offset_bounds-counts-k c =
    let inside : c.bucket_of-k.result < length c.args.counts.now = omega (arith, c.bucket_of-k.ensures, c.requires.bounds_in_bounds, bucket_in c.args.bounds.now c.args.counts.now c.args.v c.requires.bounds_in_bounds (omega (arith, c.if-bounds-eq0.false))) in
    omega (arith, inside)

pub bounds-counts-k : goal.bounds-counts-k
bounds-counts-k c =
    let inside : c.bucket_of-k.result < length c.args.counts.now = omega (arith, c.bucket_of-k.ensures, c.requires.bounds_in_bounds, bucket_in c.args.bounds.now c.args.counts.now c.args.v c.requires.bounds_in_bounds (omega (arith, c.if-bounds-eq0.false))) in
    omega (arith, inside)

pub overflow_add-counts : goal.overflow_add-counts
overflow_add-counts c =
    omega (arith, one-fits c.args.bounds.now c.args.counts.now c.args.v c.requires.bounds_in_bounds (omega (arith, c.if-bounds-eq0.false)) c.requires.counts_bound c.bucket_of-k.result c.bucket_of-k.ensures)

pub bounds-counts-k-2 : goal.bounds-counts-k-2
bounds-counts-k-2 c =
    let inside : c.bucket_of-k.result < length c.args.counts.now = omega (arith, c.bucket_of-k.ensures, c.requires.bounds_in_bounds, bucket_in c.args.bounds.now c.args.counts.now c.args.v c.requires.bounds_in_bounds (omega (arith, c.if-bounds-eq0.false))) in
    omega (arith, inside)

pub returns : goal.returns
returns c =
    one_more c.args.bounds.now c.args.counts.now c.args.v c.requires.bounds_in_bounds (omega (arith, c.if-bounds-eq0.false)) c.bucket_of-k.result c.bucket_of-k.ensures
