-- `text::written::hex_digits` meets its contract: the digits from place i on stand. Assumes nothing.
use Rattle.std.proofs.Common.{◌≡◌, ◌-◌, ◌/◌, ◌^◌, ◌≤◌, length, drop}
use Rattle.text.specs.Numbers.{hex_digits}
use Rattle.text.proofs.written.hex_digits.Given as goal

abbrev pub invariant-loop-i : goal.invariant-loop-i
invariant-loop-i l = (l.i ≤ 16) × (l.rest ≡ l.bits / 16 ^ (16 - l.i)) × (drop l.i l.out ≡ hex_digits (16 - l.i) l.bits) × (length l.out ≡ 16)

abbrev pub decreases-loop-i : goal.decreases-loop-i
decreases-loop-i l = l.i
