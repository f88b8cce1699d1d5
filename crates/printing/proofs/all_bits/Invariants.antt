-- `printing::all_bits` meets its contract: what waits in the end is what the bounds left give from here. Assumes nothing.
use mathlib.Core.Path.{◌≡◌}
use mathlib.Core.List.{map}
use Rattle.lines.specs.Gathered.{◌behind◌}
use Rattle.printing.specs.Fields.{joined, float_field}
use Rattle.printing.proofs.Putting.{from}
use Rattle.printing.proofs.all_bits.Given as goal

abbrev pub invariant-loop-i : goal.invariant-loop-i
invariant-loop-i l =
    ((from 44 (map float_field l.bounds) l.i behind record { count = l.m; block = l.text }) ≡ (joined 44 (map float_field l.bounds) behind record { count = l.n; block = l.initial.text }))
