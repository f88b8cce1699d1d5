use mathlib.Core.Path.{◌≡◌}
use Rattle.rows.specs.Rows.{zeroed}
use Rattle.rows.proofs.zero.Given as goal

abbrev pub invariant-loop-i : goal.invariant-loop-i
invariant-loop-i l = l.counts ≡ zeroed l.a l.i l.initial.counts
