-- `index::finest_bin` meets its contract: the rank gives the bucket, and a magnitude has one bin. Assumes nothing.
use mathlib.Core.Path.{sym}
use native.Mathlib.Omega.{arith}
use Rattle.index.proofs.Ranks.{finest-from}
use Rattle.index.proofs.finest_bin.Goals as goal

pub overflow_add-result-2 : goal.overflow_add-result-2
overflow_add-result-2 c = omega (arith, c.rank.ensures.small)

pub overflow_cast-result : goal.overflow_cast-result
overflow_cast-result c = record { fits = omega (arith, c.rank.ensures.small, c.requires.3) }

pub returns : goal.returns
returns c = sym (finest-from c.args.mantissa c.args.exponent c.rank.result c.requires.3 c.rank.ensures)
