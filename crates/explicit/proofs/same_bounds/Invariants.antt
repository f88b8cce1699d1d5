use mathlib.Core.Path.{◌≡◌}
use lib.ListN.{take}
use Rattle.points.specs.Explicit.{same_bounds}
use Rattle.explicit.proofs.same_bounds.Given as goal

abbrev pub invariant-loop-i : goal.invariant-loop-i
invariant-loop-i l = l.ok ≡ same_bounds (take l.i l.a) (take l.i l.b)
