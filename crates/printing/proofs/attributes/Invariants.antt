-- `printing::attributes` meets its contract: what waits in the end is what the attributes left give from here. Assumes nothing.
use mathlib.Core.Path.{◌≡◌}
use mathlib.Core.List.{map}
use Rattle.lines.specs.Gathered.{◌behind◌}
use Rattle.printing.specs.Fields.{joined, attribute_field}
use Rattle.printing.proofs.Putting.{from}
use Rattle.printing.proofs.Sets.{eight}
use Rattle.printing.proofs.attributes.Given as goal

abbrev pub invariant-loop-i : goal.invariant-loop-i
invariant-loop-i l =
    ((from 44 (map attribute_field (eight l.fn.row)) l.i behind record { count = l.m; block = l.text })
    ≡ (joined 44 (map attribute_field (eight l.fn.row)) behind record { count = l.n; block = l.initial.text }))
