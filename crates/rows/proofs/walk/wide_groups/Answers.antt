use mathlib.Core.Path.{◌≡◌}
use Prim.Native.Nat.{◌+◌, ◌<◌}
use native.Mathlib.Nat.{zero-mul}
use native.Mathlib.Omega.{arith}
use lib.ListN.{length}
use Rattle.rows.proofs.Groups.{Group, group, next-group, gathered_none}
use Rattle.rows.proofs.walk.wide_groups.Goals as goal

pub loop-k-init : goal.loop-k-init
loop-k-init c =
    let a = c.args in
    (omega (arith, zero-mul a.width), gathered_none a.width 1 a.i a.counts.now (omega (arith, c.requires.gatherable.0, c.requires.gatherable.1)))

pub group_total-x-requires : goal.group_total-x-requires
group_total-x-requires c =
    let in-turn : Group c.args.counts.now c.loop-k.counts c.args.width 1 c.args.i c.loop-k.k c.loop-k.j =
    let a = c.args in
    let l = c.loop-k in
    group a.counts.now l.counts a.width 1 a.i a.m l.k l.j c.requires.gatherable c.requires.width_nonzero.0 c.loop-k-test.true l.invariant.0 l.invariant.1 in
    record { width_nonzero = c.requires.width_nonzero; width_in_bounds = ((in-turn).inside, (in-turn).fits) }

pub overflow_add-counts : goal.overflow_add-counts
overflow_add-counts c =
    let in-turn : Group c.args.counts.now c.loop-k.counts c.args.width 1 c.args.i c.loop-k.k c.loop-k.j =
    let a = c.args in
    let l = c.loop-k in
    group a.counts.now l.counts a.width 1 a.i a.m l.k l.j c.requires.gatherable c.requires.width_nonzero.0 c.loop-k-test.true l.invariant.0 l.invariant.1 in
    let place : c.loop-k.k + 1 < length c.loop-k.counts =
    let g = in-turn in
    omega (arith, g.inside, g.behind, c.requires.width_nonzero.0) in
    omega (arith, place, (in-turn).kept)

pub offset_bounds-counts-k : goal.offset_bounds-counts-k
offset_bounds-counts-k c =
    let in-turn : Group c.args.counts.now c.loop-k.counts c.args.width 1 c.args.i c.loop-k.k c.loop-k.j =
    let a = c.args in
    let l = c.loop-k in
    group a.counts.now l.counts a.width 1 a.i a.m l.k l.j c.requires.gatherable c.requires.width_nonzero.0 c.loop-k-test.true l.invariant.0 l.invariant.1 in
    let place : c.loop-k.k + 1 < length c.loop-k.counts =
    let g = in-turn in
    omega (arith, g.inside, g.behind, c.requires.width_nonzero.0) in
    omega (arith, place, (in-turn).kept)

pub bounds-counts-k : goal.bounds-counts-k
bounds-counts-k c =
    let in-turn : Group c.args.counts.now c.loop-k.counts c.args.width 1 c.args.i c.loop-k.k c.loop-k.j =
    let a = c.args in
    let l = c.loop-k in
    group a.counts.now l.counts a.width 1 a.i a.m l.k l.j c.requires.gatherable c.requires.width_nonzero.0 c.loop-k-test.true l.invariant.0 l.invariant.1 in
    let place : c.loop-k.k + 1 < length c.loop-k.counts =
    let g = in-turn in
    omega (arith, g.inside, g.behind, c.requires.width_nonzero.0) in
    place

pub overflow_add-j : goal.overflow_add-j
overflow_add-j c =
    let in-turn : Group c.args.counts.now c.loop-k.counts c.args.width 1 c.args.i c.loop-k.k c.loop-k.j =
    let a = c.args in
    let l = c.loop-k in
    group a.counts.now l.counts a.width 1 a.i a.m l.k l.j c.requires.gatherable c.requires.width_nonzero.0 c.loop-k-test.true l.invariant.0 l.invariant.1 in
    omega (arith, (in-turn).inside, (in-turn).kept)

pub loop-k-preserved : goal.loop-k-preserved
loop-k-preserved c =
    let in-turn : Group c.args.counts.now c.loop-k.counts c.args.width 1 c.args.i c.loop-k.k c.loop-k.j =
    let a = c.args in
    let l = c.loop-k in
    group a.counts.now l.counts a.width 1 a.i a.m l.k l.j c.requires.gatherable c.requires.width_nonzero.0 c.loop-k-test.true l.invariant.0 l.invariant.1 in
    let a = c.args in
    let l = c.loop-k in
    (next-group a.i l.k a.width l.j l.invariant.0, rw c.group_total-x.ensures (in-turn).next)

pub returns : goal.returns
returns c =
    let l = c.loop-k in
    let e : l.k ≡ c.args.m = omega arith in
    rw e at l.invariant.1
