-- `sheet_writing::put::emit_floats` meets its contract. Assumes nothing.
use mathlib.Core.Path.{◌≡◌}
use mathlib.Core.List.{map}
use lib.ListN.{take}
use Rattle.floats.specs.Answers.{bits_of}
use Rattle.records.specs.Inner.{laid}
use Rattle.sheet_writing.proofs.put.emit_floats.Given as goal

abbrev pub invariant-loop-i : goal.invariant-loop-i
invariant-loop-i l = l.s ≡ laid l.info l.n l.k (take l.i (map bits_of l.xs)) l.initial.s
