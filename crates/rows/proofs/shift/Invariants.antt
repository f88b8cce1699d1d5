use mathlib.Core.Path.{◌≡◌}
use Rattle.rows.proofs.Moves.{moved}
use Rattle.rows.proofs.shift.Given as goal

abbrev pub invariant-loop-j : goal.invariant-loop-j
invariant-loop-j l = l.counts ≡ moved l.n l.k l.j l.initial.counts
