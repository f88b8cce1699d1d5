use mathlib.Core.Path.{◌≡◌}
use Prim.Native.Nat.{◌+◌}
use native.Mathlib.Omega.{arith}
use Rattle.rows.proofs.Groups.{part-within, Fours, fours}
use Rattle.rows.proofs.walk.group_total.Goals as goal

pub four_total-sum-requires : goal.four_total-sum-requires
four_total-sum-requires c = (
  omega (arith, c.requires.width_nonzero.0, c.requires.width_nonzero.1, c.requires.width_in_bounds.0),
  omega (arith, part-within c.args.counts.now c.args.i c.args.i (c.args.i + 4) (c.args.i + c.args.width) (omega arith) (omega arith) (omega (arith, c.requires.width_nonzero.0, c.requires.width_nonzero.1)), c.requires.width_in_bounds.1),
)

pub loop-j-init : goal.loop-j-init
loop-j-init c = (omega arith, omega arith, c.four_total-sum.ensures)

pub four_total-more-requires : goal.four_total-more-requires
four_total-more-requires c =
    let in-turn : Fours c.args.counts.now c.args.i c.loop-j.sum c.loop-j.j =
    let l = c.loop-j in
    fours c.args.counts.now c.args.i c.args.width l.sum l.j (omega arith) c.requires.width_in_bounds.0 c.requires.width_in_bounds.1 l.invariant.2 in
    ((in-turn).inside, (in-turn).part-fits)

pub overflow_add-sum : goal.overflow_add-sum
overflow_add-sum c =
    let in-turn : Fours c.args.counts.now c.args.i c.loop-j.sum c.loop-j.j =
    let l = c.loop-j in
    fours c.args.counts.now c.args.i c.args.width l.sum l.j (omega arith) c.requires.width_in_bounds.0 c.requires.width_in_bounds.1 l.invariant.2 in
    omega (arith, (in-turn).fits, c.four_total-more.ensures)

pub loop-j-preserved : goal.loop-j-preserved
loop-j-preserved c =
    let in-turn : Fours c.args.counts.now c.args.i c.loop-j.sum c.loop-j.j =
    let l = c.loop-j in
    fours c.args.counts.now c.args.i c.args.width l.sum l.j (omega arith) c.requires.width_in_bounds.0 c.requires.width_in_bounds.1 l.invariant.2 in
    (omega arith, omega arith, omega (arith, (in-turn).next, c.four_total-more.ensures))

pub returns : goal.returns
returns c =
    let e : c.loop-j.j ≡ c.args.width = omega arith in
    rw e at c.loop-j.invariant.2
