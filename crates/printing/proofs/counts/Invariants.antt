-- `printing::counts` meets its contract: what waits in the end is what the counts left give from here. Assumes nothing.
use mathlib.Core.Path.{◌≡◌}
use mathlib.Core.List.{map}
use Rattle.lines.specs.Gathered.{◌behind◌}
use Rattle.lines.specs.Written.{decimal}
use Rattle.printing.specs.Fields.{joined}
use Rattle.printing.proofs.Putting.{from}
use Rattle.printing.proofs.counts.Given as goal

abbrev pub invariant-loop-i : goal.invariant-loop-i
invariant-loop-i l =
    ((from 44 (map decimal l.row) l.i behind record { count = l.m; block = l.text }) ≡ (joined 44 (map decimal l.row) behind record { count = l.n; block = l.initial.text }))
