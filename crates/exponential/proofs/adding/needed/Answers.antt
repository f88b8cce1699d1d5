use Rattle.std.proofs.Common.{arith}
use Rattle.exponential.proofs.Rowed.{bins-empty, bins-some}
use Rattle.exponential.proofs.adding.needed.Goals as goal

pub returns-then-n-eq0 : goal.returns-then-n-eq0
returns-then-n-eq0 c =
    let e = bins-empty c.args.row.start c.args.row.len c.args.bin c.if-n-eq0.true in
    rw (e.0, e.1) c.scale_change.ensures

pub returns : goal.returns
returns c =
    let e = bins-some c.args.row.start c.args.row.len c.args.bin (omega (arith, c.if-n-eq0.false)) in
    rw (e.0, e.1, ← c.min-lo.ensures, ← c.max-hi.ensures) c.scale_change-2.ensures
