-- `sheet_writing::judge::no_kind` meets its contract. Assumes nothing.
use mathlib.Core.Path.{◌≡◌}
use mathlib.Core.Bool.{true}
use Rattle.sheet_writing.specs.Inner.{no_kind}
use Rattle.sheet_writing.proofs.judge.no_kind.Given as goal

abbrev pub invariant-loop-i : goal.invariant-loop-i
invariant-loop-i l = no_kind l.i l.words ≡ true
