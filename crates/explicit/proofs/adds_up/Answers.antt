use Prim.Native.Nat.{◌+◌, ◌*◌}
use mathlib.Core.Path.{◌≡◌}
use native.Mathlib.Omega.{arith}
use lib.ListN.{take}
use Rattle.laws.specs.Counting.{total}
use Rattle.exponential.proofs.Rowed.{halved-total}
use Rattle.exponential.proofs.Facts.{last_fits}
use Rattle.explicit.proofs.Cases.{adds-no, adds-by}
use Rattle.explicit.proofs.adds_up.Goals as goal

pub sum_halves-s-requires : goal.sum_halves-s-requires
sum_halves-s-requires c = record { n_in_bounds = c.requires; low_bound = (omega arith, omega arith) }

pub returns-then-count-s : goal.returns-then-count-s
returns-then-count-s c =
    let sums : c.sum_halves-s.result.low + c.sum_halves-s.result.high * 4294967296 ≡ total (take c.args.n c.args.counts.now) = omega (arith, halved-total _ _ _ c.sum_halves-s.ensures.value) in
    let a = c.args in
    adds-no a.count (total (take a.n a.counts.now)) c.sum_halves-s.result.low c.sum_halves-s.result.high (sums) c.if-count-s.true

pub overflow_add-result : goal.overflow_add-result
overflow_add-result c =
    record { fits = last_fits c.sum_halves-s.result.low c.sum_halves-s.result.high 0 0 c.args.n (omega arith) (omega arith) c.requires.1 c.sum_halves-s.ensures.low_bound_2.0 c.sum_halves-s.ensures.low_bound_2.1 }

pub returns : goal.returns
returns c =
    let sums : c.sum_halves-s.result.low + c.sum_halves-s.result.high * 4294967296 ≡ total (take c.args.n c.args.counts.now) = omega (arith, halved-total _ _ _ c.sum_halves-s.ensures.value) in
    let a = c.args in
    adds-by a.count (total (take a.n a.counts.now)) c.sum_halves-s.result.low c.sum_halves-s.result.high (sums) c.if-count-s.false
