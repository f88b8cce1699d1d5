use Prim.Native.Nat.{◌/◌, ◌^◌, ◌≤◌}
use native.Mathlib.Omega.{arith}
use lib.Pow.{shr_le}
use Rattle.rows.proofs.Cuts.{First, first}
use Rattle.rows.proofs.walk.first_end.Goals as goal

pub overflow_cast-result : goal.overflow_cast-result
overflow_cast-result c =
    let low : c.args.start / 2 ^ c.args.delta ≤ c.args.start = shr_le c.args.start c.args.delta in
    omega (arith, low)

pub overflow_add-result : goal.overflow_add-result
overflow_add-result c =
    let low : c.args.start / 2 ^ c.args.delta ≤ c.args.start = shr_le c.args.start c.args.delta in
    omega (arith, low)

pub overflow_mul-result : goal.overflow_mul-result
overflow_mul-result c =
    let met : First c.args.start c.args.delta c.args.width = first c.args.start c.args.delta c.args.width c.ranges.start.fits c.requires.0 c.requires.1 in
    record { fits = met.fits }

pub overflow_sub-result : goal.overflow_sub-result
overflow_sub-result c =
    let met : First c.args.start c.args.delta c.args.width = first c.args.start c.args.delta c.args.width c.ranges.start.fits c.requires.0 c.requires.1 in
    (met).below

pub returns : goal.returns
returns c =
    let met : First c.args.start c.args.delta c.args.width = first c.args.start c.args.delta c.args.width c.ranges.start.fits c.requires.0 c.requires.1 in
    (met).meets
