-- `sheet_writing::judge::judge` meets its contract. Assumes nothing.
use Rattle.sheet_writing.specs.Writing.{shadowed}
use Rattle.sheet_writing.proofs.Steps.{Going}
use Rattle.sheet_writing.proofs.judge.judge.Given as goal

abbrev pub invariant-loop-i : goal.invariant-loop-i
invariant-loop-i l =
    Going l.n l.i l.at l.cells (shadowed (record { list = record { sets = l.sets; words = l.words; pos = l.pos; neg = l.neg }; bounds = l.bounds }))
