-- `sheet_reading::words::read_floats` meets its contract. Assumes nothing.
use mathlib.Core.Path.{◌≡◌}
use lib.ListN.{take}
use Rattle.sheet_reading.specs.Inner.{floats_at}
use Rattle.sheet_reading.proofs.words.read_floats.Given as goal

abbrev pub invariant-loop-i : goal.invariant-loop-i
invariant-loop-i l = take l.i l.out ≡ floats_at l.s l.k l.i
