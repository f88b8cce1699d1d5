-- `lines::input::in_eight` meets its contract. Assumes nothing.
use mathlib.Core.Path.{◌≡◌}
use Rattle.lines.specs.Reading.{newline_in}
use Rattle.lines.proofs.input.in_eight.Given as goal

abbrev pub invariant-loop-byte : goal.invariant-loop-byte
invariant-loop-byte l = l.found ≡ newline_in l.block l.from l.byte-index
