-- `directory::check::places` meets its contract. Assumes nothing.
use Rattle.std.proofs.Common.{sym}
use Rattle.directory.proofs.check.places.Goals as goal

pub returns-then-quick : goal.returns-then-quick
returns-then-quick c = sym (c.quick.ensures c.if-quick.true)

pub returns : goal.returns
returns c = c.one_by_one.ensures
