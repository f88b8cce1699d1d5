-- `directory::write::rebind` meets its contract. Assumes nothing.
use Rattle.std.proofs.Common.{rules}
use Rattle.directory.specs.Calls.{bound_to}
use Rattle.directory.proofs.write.rebind.Goals as goal

pub returns : goal.returns
unfolding bound_to
returns c = search rules
