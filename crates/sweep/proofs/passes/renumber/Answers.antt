-- `sweep::passes::renumber` meets its contract. Assumes nothing.
use native.Mathlib.Omega.{arith}
use mathlib.Core.Path.{◌≡◌, refl, ap, ◌∙◌}
use Prim.Native.Nat.{ℕ, ◌+◌, ◌-◌, ◌≤◌, ◌<◌}
use lib.ListN.{length}
use Rattle.laws.specs.Over.{over}
use Rattle.sets.specs.Rows.{span}
use Rattle.sweep.specs.Passes.{mark_in, packed, lows, renumbered}
use Rattle.sweep.proofs.Turns.{first, words_long, word-long, word-few, word-slot, words}
use Rattle.sweep.proofs.passes.renumber.Goals as goal

pub loop-i-init : goal.loop-i-init
loop-i-init c =
    (omega arith, refl, refl, first c.args.used c.args.order.now c.requires.0 c.requires.1 c.requires.2 c.requires.3)

pub overflow_sub-q : goal.overflow_sub-q
overflow_sub-q c =
    let slot : (1 ≤ c.low-q.result) × (c.low-q.result ≤ c.args.used) = word-slot c.args.used c.args.order.now c.requires.0 c.requires.1 c.requires.2 c.requires.3 c.loop-i.order c.loop-i.w c.loop-i.i c.loop-i.invariant.3 c.loop-i.invariant.1 c.loop-i-test.true c.low-q.result c.low-q.ensures in
    (slot).0

pub bounds-order-q : goal.bounds-order-q
bounds-order-q c =
    let slot : (1 ≤ c.low-q.result) × (c.low-q.result ≤ c.args.used) = word-slot c.args.used c.args.order.now c.requires.0 c.requires.1 c.requires.2 c.requires.3 c.loop-i.order c.loop-i.w c.loop-i.i c.loop-i.invariant.3 c.loop-i.invariant.1 c.loop-i-test.true c.low-q.result c.low-q.ensures in
    let in-high : c.low-q.result - 1 < length c.loop-i.order = omega (arith, (slot).0, (slot).1, c.requires.0, word-long c.args.used c.args.order.now c.requires.0 c.requires.1 c.requires.2 c.requires.3 c.loop-i.order c.loop-i.w c.loop-i.i c.loop-i.invariant.3 c.loop-i.invariant.1 c.loop-i-test.true) in
    in-high

pub put_place-w-requires : goal.put_place-w-requires
put_place-w-requires c =
    (omega (arith, word-long c.args.used c.args.order.now c.requires.0 c.requires.1 c.requires.2 c.requires.3 c.loop-i.order c.loop-i.w c.loop-i.i c.loop-i.invariant.3 c.loop-i.invariant.1 c.loop-i-test.true, word-few c.args.used c.args.order.now c.requires.0 c.requires.1 c.requires.2 c.requires.3 c.loop-i.order c.loop-i.w c.loop-i.i c.loop-i.invariant.3 c.loop-i.invariant.1 c.loop-i-test.true, c.loop-i-test.true, c.requires.0), c.high-m.ensures.1)

pub loop-i-preserved : goal.loop-i-preserved
loop-i-preserved c =
    let n = words c.args.used c.args.order.now c.requires.0 c.requires.1 c.requires.2 c.requires.3 c.loop-i.order c.loop-i.w c.loop-i.i c.loop-i.invariant.3 c.loop-i.invariant.1 c.loop-i-test.true c.low-q.result c.low-q.ensures c.high-m.result c.high-m.ensures.0 in
    let r = c.put_place-w.ensures.1 ∙ n.1 in
    (omega (arith, c.loop-i-test.true), c.put_place-w.ensures.0 ∙ n.0, ap length r ∙ words_long c.args.used c.args.order.now c.requires.0 c.requires.1 c.requires.2 c.requires.3 (c.loop-i.i + 1) (omega (arith, c.loop-i-test.true)), r)

pub shape_of-order : goal.shape_of-order
shape_of-order c = c.loop-i.invariant.2

pub returns : goal.returns
returns c =
    let e : c.loop-i.i ≡ c.args.used = omega (arith, c.loop-i-test.false) in
    c.loop-i.invariant.3 ∙ ap (λ (n : ℕ). packed (mark_in c.args.order.now) c.args.used (over (renumbered (mark_in c.args.order.now) (span (lows c.args.used c.args.order.now) 0 n)) (lows c.args.used c.args.order.now))) e
