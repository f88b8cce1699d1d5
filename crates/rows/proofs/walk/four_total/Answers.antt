use mathlib.Core.Path.{◌≡◌}
use Prim.Native.Nat.{◌+◌}
use native.Mathlib.Omega.{arith}
use Rattle.laws.specs.Counting.{total}
use Rattle.rows.specs.Parts.{part}
use Rattle.rows.proofs.Groups.{part_join}
use Rattle.rows.proofs.walk.four_total.Goals as goal

pub two_total-a-requires : goal.two_total-a-requires
two_total-a-requires c =
    let halves : total (part c.args.counts.now c.args.i (c.args.i + 4))
    ≡ total (part c.args.counts.now c.args.i (c.args.i + 2)) + total (part c.args.counts.now (c.args.i + 2) (c.args.i + 2 + 2)) =
    let e : c.args.i + 2 + 2 ≡ c.args.i + 4 = omega arith in
    rw e (part_join c.args.counts.now c.args.i (c.args.i + 2) (c.args.i + 4) (omega arith) (omega arith)) in
    (omega (arith, c.requires.0), omega (arith, halves, c.requires.1))

pub two_total-b-requires : goal.two_total-b-requires
two_total-b-requires c =
    let halves : total (part c.args.counts.now c.args.i (c.args.i + 4))
    ≡ total (part c.args.counts.now c.args.i (c.args.i + 2)) + total (part c.args.counts.now (c.args.i + 2) (c.args.i + 2 + 2)) =
    let e : c.args.i + 2 + 2 ≡ c.args.i + 4 = omega arith in
    rw e (part_join c.args.counts.now c.args.i (c.args.i + 2) (c.args.i + 4) (omega arith) (omega arith)) in
    (omega (arith, c.requires.0), omega (arith, halves, c.requires.1))

pub overflow_add-result : goal.overflow_add-result
overflow_add-result c =
    let halves : total (part c.args.counts.now c.args.i (c.args.i + 4))
    ≡ total (part c.args.counts.now c.args.i (c.args.i + 2)) + total (part c.args.counts.now (c.args.i + 2) (c.args.i + 2 + 2)) =
    let e : c.args.i + 2 + 2 ≡ c.args.i + 4 = omega arith in
    rw e (part_join c.args.counts.now c.args.i (c.args.i + 2) (c.args.i + 4) (omega arith) (omega arith)) in
    omega (arith, halves, c.two_total-a.ensures, c.two_total-b.ensures, c.requires.1)

pub returns : goal.returns
returns c =
    let halves : total (part c.args.counts.now c.args.i (c.args.i + 4))
    ≡ total (part c.args.counts.now c.args.i (c.args.i + 2)) + total (part c.args.counts.now (c.args.i + 2) (c.args.i + 2 + 2)) =
    let e : c.args.i + 2 + 2 ≡ c.args.i + 4 = omega arith in
    rw e (part_join c.args.counts.now c.args.i (c.args.i + 2) (c.args.i + 4) (omega arith) (omega arith)) in
    omega (arith, halves, c.two_total-a.ensures, c.two_total-b.ensures)
