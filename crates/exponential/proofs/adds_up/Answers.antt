-- `exponential::adds_up` meets its contract. Assumes nothing.
use Rattle.std.proofs.Common.{take, arith}
use Rattle.laws.specs.Counting.{total}
use Rattle.exponential.proofs.Wraps.{sums-exact, adds-up_if}
use Rattle.exponential.proofs.adds_up.Goals as goal

pub add_row-s-requires : goal.add_row-s-requires
add_row-s-requires c = c.requires.len_in_bounds_2

pub returns-then-s-lt36028797018963968 : goal.returns-then-s-lt36028797018963968
returns-then-s-lt36028797018963968 c =
    adds-up_if c.args.c c.args.pos.now c.args.neg.now c.add_row-s.result.sum
    (sums-exact c.args.c.zeros (total (take c.args.c.pos.len c.args.pos.now)) (total (take c.args.c.neg.len c.args.neg.now)) c.add_row-a.result.sum c.add_row-s.result.sum c.add_row-a.result.most c.add_row-s.result.most c.args.c.pos.len c.args.c.neg.len
    c.add_row-a.ensures.sum_value c.add_row-s.ensures.sum_value c.add_row-a.ensures.most_le_most.0 c.add_row-a.ensures.most_le_most.1 c.requires.len_in_bounds.1 c.add_row-s.ensures.most_le_most.0 c.add_row-s.ensures.most_le_most.1 c.requires.len_in_bounds_2.1 (omega (arith, c.if-s-lt36028797018963968.true)))

pub returns : goal.returns
returns c = c.halves_add_up.ensures
