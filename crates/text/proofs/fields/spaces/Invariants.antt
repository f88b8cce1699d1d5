-- `text::fields::spaces` meets its contract. Assumes nothing.
use Rattle.std.proofs.Common.{◌≡◌, ◌+◌, ◌≤◌, drop}
use Rattle.text.specs.Fields.{spaces_of}
use Rattle.text.proofs.fields.spaces.Given as goal

abbrev pub invariant-loop-byte : goal.invariant-loop-byte
invariant-loop-byte l = (l.n ≤ l.byte-index) × (l.n + spaces_of (drop l.byte-index l.line) ≡ spaces_of l.line)
