use mathlib.Core.Path.{◌≡◌}
use lib.ListN.{take}
use Rattle.points.specs.Explicit.{added}
use Rattle.rows.specs.Rows.{over}
use Rattle.explicit.proofs.add_counts.Given as goal

abbrev pub invariant-loop-i : goal.invariant-loop-i
invariant-loop-i l = l.out ≡ over (added (take l.i l.a) (take l.i l.b)) l.initial.out
