use mathlib.Core.Path.{◌≡◌, refl}
use Prim.Native.Nat.{◌+◌, ◌-◌, ◌%◌, ◌≤◌, ◌<◌}
use native.Mathlib.Nat.{sub_self}
use native.Mathlib.Omega.{arith}
use lib.ListN.{length, length-set}
use Rattle.rows.specs.Rows.{over}
use Rattle.rows.proofs.Groups.{gathered_none}
use Rattle.halving.specs.Plain.{halved_once}
use Rattle.halving.proofs.Halves.{Half, half, none_left, one_left}
use Rattle.halving.proofs.halve.Goals as goal

pub returns-then-n-eq0 : goal.returns-then-n-eq0
unfolding halved_once over
returns-then-n-eq0 c = record { value = rw c.if-n-eq0.true refl; counts_after = rw c.if-n-eq0.true refl }

pub loop-i-init : goal.loop-i-init
loop-i-init c =
    let a = c.args in
    let z : a.start % 2 - a.start % 2 ≡ 0 = sub_self (a.start % 2) in
    (omega arith, omega arith, omega arith, refl, rw z (gathered_none 2 (a.start % 2) (a.start % 2) a.counts.now (omega (arith, c.requires.0))))

pub overflow_add-counts-in-loop-i : goal.overflow_add-counts-in-loop-i
overflow_add-counts-in-loop-i c =
    let in-turn : Half c.args.counts.now c.loop-i.counts (c.args.start % 2) c.loop-i.i c.loop-i.len =
    let a = c.args in
    let l = c.loop-i in
    half a.counts.now l.counts (a.start % 2) a.n l.i l.len l.invariant.0 l.invariant.1 c.loop-i-test.true c.requires.0 c.requires.1 l.invariant.4 in
    record { fits = (in-turn).fits }

pub offset_bounds-counts-len : goal.offset_bounds-counts-len
offset_bounds-counts-len c =
    let in-turn : Half c.args.counts.now c.loop-i.counts (c.args.start % 2) c.loop-i.i c.loop-i.len =
    let a = c.args in
    let l = c.loop-i in
    half a.counts.now l.counts (a.start % 2) a.n l.i l.len l.invariant.0 l.invariant.1 c.loop-i-test.true c.requires.0 c.requires.1 l.invariant.4 in
    let place : c.loop-i.len + 2 ≤ length c.loop-i.counts = omega (arith, (in-turn).behind, (in-turn).inside) in
    omega (arith, place)

pub bounds-counts-len : goal.bounds-counts-len
bounds-counts-len c =
    let in-turn : Half c.args.counts.now c.loop-i.counts (c.args.start % 2) c.loop-i.i c.loop-i.len =
    let a = c.args in
    let l = c.loop-i in
    half a.counts.now l.counts (a.start % 2) a.n l.i l.len l.invariant.0 l.invariant.1 c.loop-i-test.true c.requires.0 c.requires.1 l.invariant.4 in
    let place : c.loop-i.len + 2 ≤ length c.loop-i.counts = omega (arith, (in-turn).behind, (in-turn).inside) in
    omega (arith, place)

pub overflow_add-len : goal.overflow_add-len
overflow_add-len c =
    let in-turn : Half c.args.counts.now c.loop-i.counts (c.args.start % 2) c.loop-i.i c.loop-i.len =
    let a = c.args in
    let l = c.loop-i in
    half a.counts.now l.counts (a.start % 2) a.n l.i l.len l.invariant.0 l.invariant.1 c.loop-i-test.true c.requires.0 c.requires.1 l.invariant.4 in
    let place : c.loop-i.len + 2 ≤ length c.loop-i.counts = omega (arith, (in-turn).behind, (in-turn).inside) in
    omega (arith, place)

pub loop-i-preserved : goal.loop-i-preserved
loop-i-preserved c =
    let in-turn : Half c.args.counts.now c.loop-i.counts (c.args.start % 2) c.loop-i.i c.loop-i.len =
    let a = c.args in
    let l = c.loop-i in
    half a.counts.now l.counts (a.start % 2) a.n l.i l.len l.invariant.0 l.invariant.1 c.loop-i-test.true c.requires.0 c.requires.1 l.invariant.4 in
    let h = in-turn in
    (omega arith, omega arith, omega arith, rw length-set h.kept, h.next)

pub shape_of-counts-then-i-n : goal.shape_of-counts-then-i-n
shape_of-counts-then-i-n c = c.loop-i.invariant.3

pub returns-then-i-n : goal.returns-then-i-n
returns-then-i-n c =
    let l = c.loop-i in let all = none_left c.args.counts.now l.counts c.args.start c.args.n l.i l.len (omega arith) c.requires.0 l.invariant.0 l.invariant.1 c.if-i-n.true l.invariant.4 in record { value = all.0; counts_after = all.1 }

pub offset_bounds-counts-len-2 : goal.offset_bounds-counts-len-2
offset_bounds-counts-len-2 c =
    let last-place : c.loop-i.len < length c.loop-i.counts = omega arith in
    omega (arith, last-place)

pub bounds-counts-len-2 : goal.bounds-counts-len-2
bounds-counts-len-2 c =
    let last-place : c.loop-i.len < length c.loop-i.counts = omega arith in
    last-place

pub overflow_add-result : goal.overflow_add-result
overflow_add-result c =
    let last-place : c.loop-i.len < length c.loop-i.counts = omega arith in
    omega (arith, last-place)

pub shape_of-counts : goal.shape_of-counts
shape_of-counts c = rw length-set c.loop-i.invariant.3

pub returns : goal.returns
returns c =
    let l = c.loop-i in let all = one_left c.args.counts.now l.counts c.args.start c.args.n l.i l.len c.requires.0 l.invariant.0 l.invariant.1 (omega arith) l.invariant.4 in record { value = all.0; counts_after = all.1 }
