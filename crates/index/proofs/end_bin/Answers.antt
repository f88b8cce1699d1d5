-- `index::end_bin` meets its contract. Assumes nothing.
use native.Mathlib.Omega.{arith}
use lib.Pow.{shl_exact}
use Rattle.index.proofs.end_bin.Goals as goal

pub returns : goal.returns
returns c = shl_exact {a = 3} 2 c.args.level 64 (omega arith) (omega (arith, c))
