-- `text::fields::start` meets its contract: where the field behind k spaces starts, counted from here on. Assumes nothing.
use Rattle.std.proofs.Common.{◌≡◌, ◌+◌, drop}
use Rattle.text.specs.Fields.{start_of}
use Rattle.text.proofs.fields.start.Given as goal

abbrev pub invariant-loop-i : goal.invariant-loop-i
invariant-loop-i l = l.i + start_of (drop l.i l.line) l.left ≡ start_of l.line l.k
