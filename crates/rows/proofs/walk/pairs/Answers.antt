use mathlib.Core.Path.{◌≡◌, ap, ◌∙◌}
use Prim.Native.Nat.{ℕ, ◌+◌, ◌<◌}
use native.Mathlib.Omega.{arith}
use lib.ListN.{length, length-set}
use Rattle.rows.specs.Groups.{gathered}
use Rattle.rows.proofs.Groups.{Group, group, Two, two, gathered_none, gathered-length}
use Rattle.rows.proofs.walk.pairs.Goals as goal

pub loop-left-init : goal.loop-left-init
loop-left-init c =
    (omega arith, omega arith, gathered_none 2 1 c.args.i c.args.counts.now (omega (arith, c.requires.0, c.requires.1)))

pub two_total-a-requires : goal.two_total-a-requires
two_total-a-requires c =
    let in-turn : Two c.args.counts.now c.loop-left.counts c.args.i c.loop-left.k c.loop-left.j =
    let a = c.args in
    let l = c.loop-left in
    two a.counts.now l.counts a.i a.m l.k l.j c.requires (omega arith) l.invariant.1 l.invariant.2 in
    ((in-turn).first.inside, (in-turn).first.fits)

pub overflow_add-j : goal.overflow_add-j
overflow_add-j c =
    let in-turn : Two c.args.counts.now c.loop-left.counts c.args.i c.loop-left.k c.loop-left.j =
    let a = c.args in
    let l = c.loop-left in
    two a.counts.now l.counts a.i a.m l.k l.j c.requires (omega arith) l.invariant.1 l.invariant.2 in
    omega (arith, (in-turn).inside)

pub two_total-b-requires : goal.two_total-b-requires
two_total-b-requires c =
    let in-turn : Two c.args.counts.now c.loop-left.counts c.args.i c.loop-left.k c.loop-left.j =
    let a = c.args in
    let l = c.loop-left in
    two a.counts.now l.counts a.i a.m l.k l.j c.requires (omega arith) l.invariant.1 l.invariant.2 in
    ((in-turn).inside, (in-turn).fits)

pub overflow_add-counts : goal.overflow_add-counts
overflow_add-counts c =
    let in-turn : Two c.args.counts.now c.loop-left.counts c.args.i c.loop-left.k c.loop-left.j =
    let a = c.args in
    let l = c.loop-left in
    two a.counts.now l.counts a.i a.m l.k l.j c.requires (omega arith) l.invariant.1 l.invariant.2 in
    let place : c.loop-left.k + 2 < length c.loop-left.counts = omega (arith, (in-turn).inside, (in-turn).first.behind) in
    omega (arith, place)

pub offset_bounds-counts-k : goal.offset_bounds-counts-k
offset_bounds-counts-k c =
    let in-turn : Two c.args.counts.now c.loop-left.counts c.args.i c.loop-left.k c.loop-left.j =
    let a = c.args in
    let l = c.loop-left in
    two a.counts.now l.counts a.i a.m l.k l.j c.requires (omega arith) l.invariant.1 l.invariant.2 in
    let place : c.loop-left.k + 2 < length c.loop-left.counts = omega (arith, (in-turn).inside, (in-turn).first.behind) in
    omega (arith, place)

pub bounds-counts-k : goal.bounds-counts-k
bounds-counts-k c =
    let in-turn : Two c.args.counts.now c.loop-left.counts c.args.i c.loop-left.k c.loop-left.j =
    let a = c.args in
    let l = c.loop-left in
    two a.counts.now l.counts a.i a.m l.k l.j c.requires (omega arith) l.invariant.1 l.invariant.2 in
    let place : c.loop-left.k + 2 < length c.loop-left.counts = omega (arith, (in-turn).inside, (in-turn).first.behind) in
    omega (arith, place)

pub overflow_add-counts-in-loop-left : goal.overflow_add-counts-in-loop-left
overflow_add-counts-in-loop-left c =
    let in-turn : Two c.args.counts.now c.loop-left.counts c.args.i c.loop-left.k c.loop-left.j =
    let a = c.args in
    let l = c.loop-left in
    two a.counts.now l.counts a.i a.m l.k l.j c.requires (omega arith) l.invariant.1 l.invariant.2 in
    let place : c.loop-left.k + 2 < length c.loop-left.counts = omega (arith, (in-turn).inside, (in-turn).first.behind) in
    omega (arith, place)

pub offset_bounds-counts-k-in-loop-left : goal.offset_bounds-counts-k-in-loop-left
offset_bounds-counts-k-in-loop-left c =
    let in-turn : Two c.args.counts.now c.loop-left.counts c.args.i c.loop-left.k c.loop-left.j =
    let a = c.args in
    let l = c.loop-left in
    two a.counts.now l.counts a.i a.m l.k l.j c.requires (omega arith) l.invariant.1 l.invariant.2 in
    let place : c.loop-left.k + 2 < length c.loop-left.counts = omega (arith, (in-turn).inside, (in-turn).first.behind) in
    omega (arith, place)

pub bounds-counts-k-in-loop-left : goal.bounds-counts-k-in-loop-left
bounds-counts-k-in-loop-left c =
    let in-turn : Two c.args.counts.now c.loop-left.counts c.args.i c.loop-left.k c.loop-left.j =
    let a = c.args in
    let l = c.loop-left in
    two a.counts.now l.counts a.i a.m l.k l.j c.requires (omega arith) l.invariant.1 l.invariant.2 in
    let place : c.loop-left.k + 2 < length c.loop-left.counts = omega (arith, (in-turn).inside, (in-turn).first.behind) in
    rw length-set (place)

pub overflow_add-j-in-loop-left : goal.overflow_add-j-in-loop-left
overflow_add-j-in-loop-left c =
    let in-turn : Two c.args.counts.now c.loop-left.counts c.args.i c.loop-left.k c.loop-left.j =
    let a = c.args in
    let l = c.loop-left in
    two a.counts.now l.counts a.i a.m l.k l.j c.requires (omega arith) l.invariant.1 l.invariant.2 in
    omega (arith, (in-turn).inside)

pub loop-left-preserved : goal.loop-left-preserved
loop-left-preserved c =
    let in-turn : Two c.args.counts.now c.loop-left.counts c.args.i c.loop-left.k c.loop-left.j =
    let a = c.args in
    let l = c.loop-left in
    two a.counts.now l.counts a.i a.m l.k l.j c.requires (omega arith) l.invariant.1 l.invariant.2 in
    (omega arith, omega arith, rw (c.two_total-a.ensures, c.two_total-b.ensures) (in-turn).next)

pub shape_of-counts-then-left-eq0 : goal.shape_of-counts-then-left-eq0
shape_of-counts-then-left-eq0 c =
    let a = c.args in
    let l = c.loop-left in
    ap length l.invariant.2 ∙ gathered-length 2 1 a.i l.k a.counts.now (omega (arith, c.requires.0, c.requires.1))

pub returns-then-left-eq0 : goal.returns-then-left-eq0
returns-then-left-eq0 c =
    let l = c.loop-left in
    let e : l.k ≡ c.args.m = omega arith in
    rw e at l.invariant.2

pub two_total-a-requires-2 : goal.two_total-a-requires-2
two_total-a-requires-2 c =
    let at_last : Group c.args.counts.now c.loop-left.counts 2 1 c.args.i c.loop-left.k c.loop-left.j =
    let a = c.args in
    let l = c.loop-left in
    group a.counts.now l.counts 2 1 a.i a.m l.k l.j c.requires (omega arith) (omega arith) l.invariant.1 l.invariant.2 in
    ((at_last).inside, (at_last).fits)

pub overflow_add-counts-2 : goal.overflow_add-counts-2
overflow_add-counts-2 c =
    let at_last : Group c.args.counts.now c.loop-left.counts 2 1 c.args.i c.loop-left.k c.loop-left.j =
    let a = c.args in
    let l = c.loop-left in
    group a.counts.now l.counts 2 1 a.i a.m l.k l.j c.requires (omega arith) (omega arith) l.invariant.1 l.invariant.2 in
    let last-place : c.loop-left.k + 1 < length c.loop-left.counts = omega (arith, (at_last).inside, (at_last).behind) in
    omega (arith, last-place)

pub offset_bounds-counts-k-2 : goal.offset_bounds-counts-k-2
offset_bounds-counts-k-2 c =
    let at_last : Group c.args.counts.now c.loop-left.counts 2 1 c.args.i c.loop-left.k c.loop-left.j =
    let a = c.args in
    let l = c.loop-left in
    group a.counts.now l.counts 2 1 a.i a.m l.k l.j c.requires (omega arith) (omega arith) l.invariant.1 l.invariant.2 in
    let last-place : c.loop-left.k + 1 < length c.loop-left.counts = omega (arith, (at_last).inside, (at_last).behind) in
    omega (arith, last-place)

pub bounds-counts-k-2 : goal.bounds-counts-k-2
bounds-counts-k-2 c =
    let at_last : Group c.args.counts.now c.loop-left.counts 2 1 c.args.i c.loop-left.k c.loop-left.j =
    let a = c.args in
    let l = c.loop-left in
    group a.counts.now l.counts 2 1 a.i a.m l.k l.j c.requires (omega arith) (omega arith) l.invariant.1 l.invariant.2 in
    let last-place : c.loop-left.k + 1 < length c.loop-left.counts = omega (arith, (at_last).inside, (at_last).behind) in
    last-place

pub shape_of-counts : goal.shape_of-counts
shape_of-counts c =
    let at_last : Group c.args.counts.now c.loop-left.counts 2 1 c.args.i c.loop-left.k c.loop-left.j =
    let a = c.args in
    let l = c.loop-left in
    group a.counts.now l.counts 2 1 a.i a.m l.k l.j c.requires (omega arith) (omega arith) l.invariant.1 l.invariant.2 in
    rw length-set (at_last).kept

pub returns : goal.returns
returns c =
    let at_last : Group c.args.counts.now c.loop-left.counts 2 1 c.args.i c.loop-left.k c.loop-left.j =
    let a = c.args in
    let l = c.loop-left in
    group a.counts.now l.counts 2 1 a.i a.m l.k l.j c.requires (omega arith) (omega arith) l.invariant.1 l.invariant.2 in
    let a = c.args in
    let e : c.loop-left.k + 1 ≡ c.args.m = omega arith in
    rw c.two_total-a-2.ensures (at_last).next ∙ ap (λ (n : ℕ). gathered 2 1 a.i n a.counts.now) e
