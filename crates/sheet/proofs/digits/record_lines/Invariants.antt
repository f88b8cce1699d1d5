-- `sheet::digits::record_lines` meets its contract: what waits in the end is what the records left give from here. Assumes nothing.
use mathlib.Core.Path.{◌≡◌}
use Rattle.lines.specs.Gathered.{◌behind◌}
use Rattle.sheet.specs.Digits.{record_lines}
use Rattle.sheet.proofs.Hex.{lines_from}
use Rattle.sheet.proofs.digits.record_lines.Given as goal

abbrev pub invariant-loop-k : goal.invariant-loop-k
invariant-loop-k l =
    (lines_from l.many l.k l.bytes behind record { count = l.m; block = l.text }) ≡ (record_lines l.many l.bytes behind record { count = l.n; block = l.initial.text })
