-- `listing::read::lie` meets its contract. Assumes nothing.
use mathlib.Core.Path.{sym}
use Rattle.listing.proofs.Cases.{lie-no, lie-is}
use Rattle.listing.proofs.read.lie.Goals as goal

pub returns-then-many-from : goal.returns-then-many-from
returns-then-many-from c = let a = c.args in sym (lie-no a.from a.n a.many c.if-many-from.true)

pub returns : goal.returns
returns c = let a = c.args in lie-is a.from a.n a.many c.if-many-from.false
