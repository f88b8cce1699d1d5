use Rattle.std.proofs.Common.{refl}
use lib.Ieee.{of_bits, neg}
use Rattle.exponential.proofs.fresh.Goals as goal

pub returns : goal.returns
unfolding of_bits neg
returns c = refl
