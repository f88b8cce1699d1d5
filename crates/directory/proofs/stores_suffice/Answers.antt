-- `directory::stores_suffice` meets its contract. Assumes nothing.
use Rattle.std.proofs.Common.{◌+◌, ap, not, false, leb}
use Rattle.directory.proofs.Refusals.{first-no, second-no, third}
use Rattle.directory.proofs.stores_suffice.Goals as goal

pub returns-then-not-suffices : goal.returns-then-not-suffices
returns-then-not-suffices c =
    first-no c.suffices.result false false (leb (c.args.limit + 2) c.args.sets) (leb (c.args.limit + 2) c.args.entries) (leb (c.args.limit + 2) c.args.order) c.suffices.ensures (ap not c.if-not-suffices.true)

pub returns-then-not-suffices-2 : goal.returns-then-not-suffices-2
returns-then-not-suffices-2 c =
    second-no c.suffices.result c.suffices-2.result false (leb (c.args.limit + 2) c.args.sets) (leb (c.args.limit + 2) c.args.entries) (leb (c.args.limit + 2) c.args.order) c.suffices.ensures (ap not c.if-not-suffices.false) c.suffices-2.ensures (ap not c.if-not-suffices-2.true)

pub returns : goal.returns
returns c =
    third c.suffices.result c.suffices-2.result c.suffices-3.result (leb (c.args.limit + 2) c.args.sets) (leb (c.args.limit + 2) c.args.entries) (leb (c.args.limit + 2) c.args.order) c.suffices.ensures (ap not c.if-not-suffices.false) c.suffices-2.ensures (ap not c.if-not-suffices-2.false) c.suffices-3.ensures
