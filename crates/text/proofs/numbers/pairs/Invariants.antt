-- `text::numbers::pairs` meets its contract. Assumes nothing.
use Rattle.std.proofs.Common.{◌≡◌, length}
use Rattle.text.specs.Pairs.{Paired}
use Rattle.text.proofs.numbers.pairs.Given as goal

abbrev pub invariant-loop-i : goal.invariant-loop-i
invariant-loop-i l = (length l.out ≡ 8) × Paired l.bytes l.i l.out
