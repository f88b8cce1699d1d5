-- `exponential::halves_add_up` meets its contract. Assumes nothing.
use Rattle.std.proofs.Common.{◌≡◌, ◌+◌, ◌*◌, take, arith}
use Rattle.laws.specs.Counting.{total}
use Rattle.exponential.proofs.Facts.{halves-sum, low-bound, high-bound, last_fits, adds-up-no, adds-up-by}
use Rattle.exponential.proofs.Rowed.{halved-total}
use Rattle.exponential.proofs.halves_add_up.Goals as goal

pub sum_halves-s-requires : goal.sum_halves-s-requires
sum_halves-s-requires c = record { n_in_bounds = c.requires.len_in_bounds_2; low_bound = (low-bound c.sum_halves-a.result.low c.args.c.zeros c.args.c.pos.len c.sum_halves-a.ensures.low_bound_2.0 c.requires.len_in_bounds.1, high-bound c.sum_halves-a.result.high c.args.c.zeros c.args.c.pos.len c.sum_halves-a.ensures.low_bound_2.1 (omega (arith, c)) c.requires.len_in_bounds.1) }

pub returns-then-count-s : goal.returns-then-count-s
returns-then-count-s c =
    let together : c.sum_halves-s.result.low + c.sum_halves-s.result.high * 4294967296
    ≡ c.args.c.zeros
    + (total (take c.args.c.pos.len c.args.pos.now) + total (take c.args.c.neg.len c.args.neg.now)) =
    halves-sum c.args.c.zeros c.sum_halves-a.result.low c.sum_halves-a.result.high c.sum_halves-s.result.low c.sum_halves-s.result.high
    (total (take c.args.c.pos.len c.args.pos.now)) (total (take c.args.c.neg.len c.args.neg.now)) (halved-total _ _ _ c.sum_halves-a.ensures.value) (halved-total _ _ _ c.sum_halves-s.ensures.value) in
    adds-up-no c.args.c c.args.pos.now c.args.neg.now c.sum_halves-s.result.low c.sum_halves-s.result.high (together) c.if-count-s.true

pub overflow_add-result : goal.overflow_add-result
overflow_add-result c =
    record {
      fits = last_fits c.sum_halves-s.result.low c.sum_halves-s.result.high c.sum_halves-a.result.low c.sum_halves-a.result.high c.args.c.neg.len
          (low-bound c.sum_halves-a.result.low c.args.c.zeros c.args.c.pos.len c.sum_halves-a.ensures.low_bound_2.0 c.requires.len_in_bounds.1) (high-bound c.sum_halves-a.result.high c.args.c.zeros c.args.c.pos.len c.sum_halves-a.ensures.low_bound_2.1 (omega (arith, c)) c.requires.len_in_bounds.1) c.requires.len_in_bounds_2.1 c.sum_halves-s.ensures.low_bound_2.0 c.sum_halves-s.ensures.low_bound_2.1;
    }

pub returns : goal.returns
returns c =
    let together : c.sum_halves-s.result.low + c.sum_halves-s.result.high * 4294967296
    ≡ c.args.c.zeros
    + (total (take c.args.c.pos.len c.args.pos.now) + total (take c.args.c.neg.len c.args.neg.now)) =
    halves-sum c.args.c.zeros c.sum_halves-a.result.low c.sum_halves-a.result.high c.sum_halves-s.result.low c.sum_halves-s.result.high
    (total (take c.args.c.pos.len c.args.pos.now)) (total (take c.args.c.neg.len c.args.neg.now)) (halved-total _ _ _ c.sum_halves-a.ensures.value) (halved-total _ _ _ c.sum_halves-s.ensures.value) in
    adds-up-by c.args.c c.args.pos.now c.args.neg.now c.sum_halves-s.result.low c.sum_halves-s.result.high (together) c.if-count-s.false
