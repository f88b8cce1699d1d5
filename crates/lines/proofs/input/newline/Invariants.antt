-- `lines::input::newline` meets its contract. Assumes nothing.
use Prim.Native.Nat.{◌≤◌}
use mathlib.Core.Path.{◌≡◌}
use Rattle.lines.specs.Reading.{newline_of}
use Rattle.lines.proofs.input.newline.Given as goal

abbrev pub invariant-loop-i : goal.invariant-loop-i
invariant-loop-i l = (l.from ≤ l.i) × (newline_of l.block l.i l.end ≡ newline_of l.block l.from l.end)
