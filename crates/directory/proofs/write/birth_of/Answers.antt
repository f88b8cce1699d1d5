-- `directory::write::birth_of` meets its contract. Assumes nothing.
use Rattle.std.proofs.Common.{sym}
use Rattle.directory.proofs.Checks.{birth-named, some}
use Rattle.directory.proofs.write.birth_of.Goals as goal

pub returns : goal.returns
returns c = sym (birth-named c.args.entries.now c.args.x (some _ c.if-x-eq0.false))
