-- `sheet::digits::put` meets its contract: what the digits left put from here on is what all put. Assumes nothing.
use Prim.Native.Nat.{◌+◌, ◌*◌, ◌≤◌}
use mathlib.Core.Path.{◌≡◌}
use lib.ListN.{length, drop}
use lib.Seq.{sets}
use Rattle.sheet.specs.Digits.{bytes_in}
use Rattle.sheet.proofs.digits.put.Given as goal

abbrev pub invariant-loop-i : goal.invariant-loop-i
invariant-loop-i l =
    (length l.line ≡ 64) × (l.from ≤ 233472) × (sets l.sheet (l.from + l.i) (bytes_in (drop (2 * l.i) l.line)) ≡ sets l.initial.sheet l.from (bytes_in l.line))
