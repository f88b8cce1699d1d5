-- `sets::set_row::compare` meets its contract. Assumes nothing.
use mathlib.Core.Path.{sym, ap}
use native.Mathlib.Omega.{arith}
use Rattle.sets.specs.Inner.{way}
use Rattle.sets.proofs.Partings.{part-shorter, part-longer, part_same, part_low, part-high}
use Rattle.sets.proofs.set_row.compare.Goals as goal

pub parting-i-requires : goal.parting-i-requires
parting-i-requires c = omega arith

pub returns-then-i-m : goal.returns-then-i-m
returns-then-i-m c =
    sym (ap way (part-shorter c.args.a.now c.args.b.now c.parting-i.result c.parting-i.ensures c.if-i-m.true (omega (arith, c.if-i-n.true, c.if-i-m.true))))

pub returns-then-a-i : goal.returns-then-a-i
returns-then-a-i c =
    sym (ap way (part_low c.args.a.now c.args.b.now c.parting-i.result c.parting-i.ensures c.if-i-n.true c.if-i-m.false c.if-a-i.true))

pub returns-then-i-n : goal.returns-then-i-n
returns-then-i-n c =
    sym (ap way (part-high c.args.a.now c.args.b.now c.parting-i.result c.parting-i.ensures c.if-i-n.true c.if-i-m.false c.requires.0 c.if-a-i.false))

pub returns-then-n-m : goal.returns-then-n-m
returns-then-n-m c =
    sym (ap way (part-longer c.args.a.now c.args.b.now c.parting-i.result c.parting-i.ensures c.if-i-n.false c.if-n-m.true))

pub returns-then-m-n : goal.returns-then-m-n
returns-then-m-n c =
    sym (ap way (part-shorter c.args.a.now c.args.b.now c.parting-i.result c.parting-i.ensures (omega (arith, c.if-i-n.false, c.if-m-n.true)) c.if-m-n.true))

pub returns : goal.returns
returns c =
    sym (ap way (part_same c.args.a.now c.args.b.now c.parting-i.result c.parting-i.ensures c.if-i-n.false c.if-n-m.false c.if-m-n.false))
