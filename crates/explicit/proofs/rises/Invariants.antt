use mathlib.Core.Path.{◌≡◌}
use lib.ListN.{take}
use Rattle.points.specs.Explicit.{rising}
use Rattle.explicit.proofs.rises.Given as goal

abbrev pub invariant-loop-i : goal.invariant-loop-i
invariant-loop-i l = l.ok ≡ rising (take l.i l.bounds)
