-- `listing::read::buckets_lie` meets its contract. Assumes nothing.
use mathlib.Core.Path.{sym}
use Rattle.listing.proofs.Cases.{buckets-none, buckets-no, buckets-are}
use Rattle.listing.proofs.read.buckets_lie.Goals as goal

pub returns-then-n-eq0 : goal.returns-then-n-eq0
returns-then-n-eq0 c = let a = c.args in buckets-none a.from a.n a.many c.if-n-eq0.true

pub returns-then-many-from : goal.returns-then-many-from
returns-then-many-from c = let a = c.args in sym (buckets-no a.from a.n a.many c.if-many-from.true)

pub returns : goal.returns
returns c = let a = c.args in buckets-are a.from a.n a.many c.if-n-eq0.false c.if-many-from.false
