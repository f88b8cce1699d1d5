-- `text::numbers::are_hex` meets its contract: those that are left decide what all do, where those before are. Assumes nothing.
use Rattle.std.proofs.Common.{◌≡◌, false, drop}
use Rattle.laws.specs.Pick.{pick}
use Rattle.text.specs.Pairs.{are_hex}
use Rattle.text.proofs.numbers.are_hex.Given as goal

abbrev pub invariant-loop-byte : goal.invariant-loop-byte
invariant-loop-byte l = pick l.all (are_hex (drop l.byte-index l.bytes)) false ≡ are_hex l.bytes
