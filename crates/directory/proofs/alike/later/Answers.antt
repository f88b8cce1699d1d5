-- `directory::alike::later` meets its contract. Assumes nothing.
use Rattle.std.proofs.Common.{◌-◌, ◌<◌, get_or, arith}
use Rattle.sets.proofs.Partings.{part-first}
use Rattle.directory.specs.Inner.{row_at}
use Rattle.directory.proofs.alike.later.Goals as goal

pub returns-then-prev-w : goal.returns-then-prev-w
returns-then-prev-w c =
    let a = row_at c.args.sets.now c.args.order.now (c.args.i - 1) in
    let b = row_at c.args.sets.now c.args.order.now c.args.i in
    let l : get_or a c.args.from 0 < get_or b c.args.from 0 = omega (arith, c.if-prev-w.true, c.requires.5, c.requires.6) in
    λ e h few k w. part-first a b c.args.from h few k w l
