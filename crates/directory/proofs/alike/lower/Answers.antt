-- `directory::alike::lower` meets its contract. Assumes nothing.
use Rattle.std.proofs.Common.{sym, ltb-true}
use Rattle.laws.proofs.Cases.{true-not-false}
use Rattle.sets.proofs.Partings.{part_low, parted-whole}
use Rattle.directory.proofs.alike.lower.Goals as goal

pub returns-then-j-a : goal.returns-then-j-a
returns-then-j-a c = λ e. true-not-false (sym e)

pub returns-then-j-b : goal.returns-then-j-b
returns-then-j-b c = λ e. true-not-false (sym e)

pub returns : goal.returns
returns c =
    λ e h few k w. part_low c.args.a.now c.args.b.now c.parting-j.result (parted-whole c.args.a.now c.args.b.now c.args.from c.parting-j.result c.parting-j.ensures w) c.if-j-a.false c.if-j-b.false (ltb-true _ _ e)
