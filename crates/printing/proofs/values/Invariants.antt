-- `printing::values` meets its contract: what waits in the end is what the points left give from here. Assumes nothing.
use Prim.Native.Nat.{◌-◌}
use mathlib.Core.Path.{◌≡◌}
use Rattle.lines.specs.Gathered.{◌behind◌}
use Rattle.printing.specs.Printed.{values_from}
use Rattle.printing.proofs.values.Given as goal

abbrev pub invariant-loop-i : goal.invariant-loop-i
invariant-loop-i l =
    ((values_from (l.many - l.i) l.i l.sets l.values behind record { count = l.m; block = l.text })
    ≡ (values_from l.many 0 l.sets l.values behind record { count = l.initial.m; block = l.initial.text }))
