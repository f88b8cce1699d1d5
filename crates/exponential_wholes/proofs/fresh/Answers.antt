-- `fresh` meets its contract. Assumes nothing.
use mathlib.Core.Path.{ap}
use lib.IntN.{pos, negsuc}
use Rattle.exponential.specs.declared.Head as F
use Rattle.exponential_wholes.specs.declared.Head.{Head}
use Rattle.exponential_wholes.proofs.fresh.Goals as goal

abbrev with : F.Head → Head
with h = record { counts = h.counts; min = pos 9223372036854775807; max = negsuc 9223372036854775807; sum = pos 0 }

pub returns : goal.returns
returns c = ap with c.fresh-h.ensures
