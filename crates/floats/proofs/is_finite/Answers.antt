-- `is_finite` meets its contract. Assumes nothing.
use lib.Ieee.{of_bits}
use Rattle.floats.proofs.Finite.{finite-test}
use Rattle.floats.proofs.is_finite.Goals as goal

pub returns : goal.returns
unfolding of_bits
returns c = finite-test c.args.x
