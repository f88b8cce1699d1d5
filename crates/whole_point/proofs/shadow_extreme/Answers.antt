-- `shadow_extreme` meets its contract. Assumes nothing.
use mathlib.Core.Path.{sym, ap}
use Rattle.points.specs.Shadow.{shadow_of}
use Rattle.whole_point.proofs.shadow_extreme.Goals as goal

pub returns-in-None : goal.returns-in-None
returns-in-None c = sym (ap shadow_of c.in-None.is)

pub returns-in-Some : goal.returns-in-Some
returns-in-Some c = sym (ap shadow_of c.in-Some.is)
