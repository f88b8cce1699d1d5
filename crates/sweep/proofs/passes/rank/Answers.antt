-- `sweep::passes::rank` meets its contract. Assumes nothing.
use native.Mathlib.Omega.{arith}
use mathlib.Core.Path.{◌≡◌, refl, ap, ◌∙◌}
use Prim.Native.Nat.{ℕ, suc, ◌+◌, ◌*◌}
use mathlib.Core.List.{List}
use lib.ListN.{get_or, length-set}
use mir.Val.{bool_byte}
use Rattle.sweep.specs.Swept.{staying, rank}
use Rattle.sweep.specs.Passes.{mark_of, packed}
use Rattle.laws.proofs.Counting.{bit_le}
use Rattle.sweep.proofs.Marks.{rank-le, mark-le}
use Rattle.sweep.proofs.Packs.{edits, edited-past}
use Rattle.sweep.proofs.Turns.{ranks, byte-bit}
use Rattle.sweep.proofs.passes.rank.Goals as goal

pub loop-x-init : goal.loop-x-init
loop-x-init c = (omega arith, refl, refl, refl)

pub overflow_add-r : goal.overflow_add-r
overflow_add-r c =
    let b = bit_le c.stays-stays.result in
    omega (arith, byte-bit c.stays-stays.result, b, rank-le (staying c.args.sets.now c.args.entries.now) c.loop-x.x, c.loop-x.invariant.1, c.loop-x-test.true)

pub pack-requires : goal.pack-requires
pack-requires c =
    let p = staying c.args.sets.now c.args.entries.now in
    let e : get_or c.loop-x.order c.loop-x.x 0 ≡ get_or c.args.order.now c.loop-x.x 0 = ap (λ (o : List ℕ). get_or o c.loop-x.x 0) c.loop-x.invariant.3 ∙ edited-past (λ i q. q + 65536 * mark_of p (suc i)) c.args.order.now c.loop-x.x c.loop-x.x (omega arith) in
    let n = ranks c.args.sets.now c.args.entries.now c.loop-x.x c.loop-x.r (bool_byte c.stays-stays.result) c.mark-m.result c.loop-x.invariant.1 c.stays-stays.result c.stays-stays.ensures (byte-bit c.stays-stays.result) c.mark-m.ensures in
    (omega (arith, e, c.requires.4 c.loop-x.x c.loop-x-test.true), omega (arith, n.1, mark-le p (suc c.loop-x.x), c.loop-x-test.true, c.requires.3))

pub loop-x-preserved : goal.loop-x-preserved
loop-x-preserved c =
    let p = staying c.args.sets.now c.args.entries.now in
    let n = ranks c.args.sets.now c.args.entries.now c.loop-x.x c.loop-x.r (bool_byte c.stays-stays.result) c.mark-m.result c.loop-x.invariant.1 c.stays-stays.result c.stays-stays.ensures (byte-bit c.stays-stays.result) c.mark-m.ensures in
    let e = c.pack.ensures ∙ ap (λ (m : ℕ). get_or c.loop-x.order c.loop-x.x 0 + 65536 * m) n.1 in
    (omega (arith, c.loop-x-test.true), n.0, length-set c.loop-x.order _ _ ∙ c.loop-x.invariant.2, edits (λ i q. q + 65536 * mark_of p (suc i)) c.args.order.now c.loop-x.order c.loop-x.x c.pack.result c.loop-x.invariant.3 e)

pub shape_of-order : goal.shape_of-order
shape_of-order c = c.loop-x.invariant.2

pub returns : goal.returns
returns c =
    let p = staying c.args.sets.now c.args.entries.now in
    let e : c.loop-x.x ≡ c.args.used = omega (arith, c.loop-x-test.false) in
    (c.loop-x.invariant.1 ∙ ap (rank p) e, c.loop-x.invariant.3 ∙ ap (λ (n : ℕ). packed (mark_of p) n c.args.order.now) e)
