use mathlib.Core.Path.{◌≡◌, sym}
use Prim.Native.Nat.{◌+◌}
use native.Mathlib.Omega.{arith}
use lib.ListN.{get_or}
use Rattle.laws.specs.Counting.{total}
use Rattle.rows.specs.Parts.{part}
use Rattle.rows.proofs.Groups.{two-are}
use Rattle.rows.proofs.walk.two_total.Goals as goal

pub overflow_add-result-2 : goal.overflow_add-result-2
overflow_add-result-2 c =
    let both : total (part c.args.counts.now c.args.i (c.args.i + 2)) ≡ get_or c.args.counts.now c.args.i 0 + get_or c.args.counts.now (c.args.i + 1) 0 = two-are c.args.counts.now c.args.i c.requires.0 in
    omega (arith, both)

pub returns : goal.returns
returns c =
    let both : total (part c.args.counts.now c.args.i (c.args.i + 2)) ≡ get_or c.args.counts.now c.args.i 0 + get_or c.args.counts.now (c.args.i + 1) 0 = two-are c.args.counts.now c.args.i c.requires.0 in
    sym (both)
