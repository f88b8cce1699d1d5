-- `sheet::digits::digits_of` meets its contract: what waits in the end is what the bytes left give from here. Assumes nothing.
use mathlib.Core.Path.{◌≡◌}
use lib.ListN.{drop}
use Rattle.lines.specs.Gathered.{◌behind◌}
use Rattle.sheet.specs.Digits.{hex_of}
use Rattle.sheet.proofs.digits.digits_of.Given as goal

abbrev pub invariant-loop-byte : goal.invariant-loop-byte
invariant-loop-byte l =
    (hex_of (drop l.byte-index l.bytes) behind record { count = l.m; block = l.text }) ≡ (hex_of l.bytes behind record { count = l.n; block = l.initial.text })
