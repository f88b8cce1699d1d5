-- `mean::half` meets its contract. Assumes nothing.
use mathlib.Core.Path.{refl}
use Rattle.mean.specs.Rule as Rule
use Rattle.mean.proofs.half.Goals as goal

pub returns : goal.returns
unfolding Rule.half
returns c = refl
