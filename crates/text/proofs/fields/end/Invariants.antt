-- `text::fields::end` meets its contract. Assumes nothing.
use Rattle.std.proofs.Common.{◌≡◌, ◌+◌, length, drop}
use Rattle.text.specs.Fields.{until}
use Rattle.text.proofs.fields.end.Given as goal

abbrev pub invariant-loop-i : goal.invariant-loop-i
invariant-loop-i l = l.i + length (until l.mark (drop l.i l.line)) ≡ l.from + length (until l.mark (drop l.from l.line))
