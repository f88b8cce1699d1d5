-- `sheet::digits::are_digits` meets its contract: those that are left decide. Assumes nothing.
use mathlib.Core.Path.{◌≡◌}
use lib.ListN.{drop}
use Rattle.laws.specs.Tests.{all}
use Rattle.sheet.specs.Digits.{is_digit}
use Rattle.sheet.proofs.digits.are_digits.Given as goal

abbrev pub invariant-loop-byte : goal.invariant-loop-byte
invariant-loop-byte l = all is_digit (drop l.byte-index l.bytes) ≡ all is_digit l.bytes
