-- `lines::output::bytes` meets its contract: what waits in the end is what the bytes left give from here. Assumes nothing.
use mathlib.Core.Path.{◌≡◌}
use lib.ListN.{drop}
use Rattle.lines.specs.Gathered.{◌behind◌}
use Rattle.lines.proofs.output.bytes.Given as goal

abbrev pub invariant-loop-b : goal.invariant-loop-b
invariant-loop-b l = (drop l.b-index l.all behind record { count = l.m; block = l.text }) ≡ (l.all behind record { count = l.n; block = l.initial.text })
