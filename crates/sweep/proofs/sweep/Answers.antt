-- `sweep::sweep` meets its contract. Assumes nothing.
use native.Mathlib.Omega.{arith}
use Rattle.sweep.specs.Swept.{staying}
use Rattle.sweep.proofs.Marks.{rank-le}
use Rattle.sweep.proofs.Whole.{places-small, marked-long, marked-slot, marked-le, moves_long, moves-le, swept-is}
use Rattle.sweep.proofs.sweep.Goals as goal

pub rank-kept-requires : goal.rank-kept-requires
rank-kept-requires c =
    (c.requires.0, c.requires.1, c.requires.2, c.requires.3, places-small c.args.d c.args.sets.now c.args.entries.now c.args.order.now c.requires.0 c.requires.1 c.requires.2 c.requires.3 c.requires.4)

pub renumber-requires : goal.renumber-requires
renumber-requires c =
    (marked-long c.args.d c.args.sets.now c.args.entries.now c.args.order.now c.requires.0 c.requires.1 c.requires.2 c.requires.3 c.requires.4 c.rank-kept.new.order c.rank-kept.ensures.1, c.requires.3, marked-slot c.args.d c.args.sets.now c.args.entries.now c.args.order.now c.requires.0 c.requires.1 c.requires.2 c.requires.3 c.requires.4 c.rank-kept.new.order c.rank-kept.ensures.1, marked-le c.args.d c.args.sets.now c.args.entries.now c.args.order.now c.requires.0 c.requires.1 c.requires.2 c.requires.3 c.requires.4 c.rank-kept.new.order c.rank-kept.ensures.1)

pub move_sets-requires : goal.move_sets-requires
move_sets-requires c =
    (c.requires.0, moves_long c.args.d c.args.sets.now c.args.entries.now c.args.order.now c.requires.0 c.requires.1 c.requires.2 c.requires.3 c.requires.4 c.rank-kept.new.order c.rank-kept.ensures.1 c.renumber.new.order c.renumber.ensures, moves-le c.args.d c.args.sets.now c.args.entries.now c.args.order.now c.requires.0 c.requires.1 c.requires.2 c.requires.3 c.requires.4 c.rank-kept.new.order c.rank-kept.ensures.1 c.renumber.new.order c.renumber.ensures)

pub move_entries-requires : goal.move_entries-requires
move_entries-requires c =
    (c.requires.1, moves_long c.args.d c.args.sets.now c.args.entries.now c.args.order.now c.requires.0 c.requires.1 c.requires.2 c.requires.3 c.requires.4 c.rank-kept.new.order c.rank-kept.ensures.1 c.renumber.new.order c.renumber.ensures, moves-le c.args.d c.args.sets.now c.args.entries.now c.args.order.now c.requires.0 c.requires.1 c.requires.2 c.requires.3 c.requires.4 c.rank-kept.new.order c.rank-kept.ensures.1 c.renumber.new.order c.renumber.ensures)

pub strip-requires : goal.strip-requires
strip-requires c =
    moves_long c.args.d c.args.sets.now c.args.entries.now c.args.order.now c.requires.0 c.requires.1 c.requires.2 c.requires.3 c.requires.4 c.rank-kept.new.order c.rank-kept.ensures.1 c.renumber.new.order c.renumber.ensures

pub overflow_sub-used : goal.overflow_sub-used
overflow_sub-used c =
    omega (arith, c.rank-kept.ensures.0, rank-le (staying c.args.sets.now c.args.entries.now) c.args.d.used)

pub returns : goal.returns
returns c =
    swept-is c.args.d c.args.sets.now c.args.entries.now c.args.order.now c.requires.0 c.requires.1 c.requires.2 c.requires.3 c.requires.4 c.rank-kept.new.order c.rank-kept.ensures.1 c.renumber.new.order c.renumber.ensures c.rank-kept.result c.saturating_sub.result c.move_sets.new.sets c.move_entries.new.entries c.strip.new.order
    c.rank-kept.ensures.0 c.move_sets.ensures c.move_entries.ensures c.strip.ensures c.saturating_sub.ensures
