-- `directory::alike::named` meets its contract. Assumes nothing.
use Rattle.std.proofs.Common.{arith}
use Rattle.directory.proofs.Likes.{named-is}
use Rattle.directory.proofs.alike.named.Goals as goal

pub returns : goal.returns
returns c = named-is _ c.args.q c.args.used (omega arith) (omega arith) (omega arith)
