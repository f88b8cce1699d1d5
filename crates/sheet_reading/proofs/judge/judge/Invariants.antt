-- `sheet_reading::judge::judge` meets its contract. Assumes nothing.
use Rattle.sheet_reading.proofs.TurnLaws.{Unjudged}
use Rattle.sheet_reading.proofs.judge.judge.Given as goal

abbrev pub invariant-loop-i : goal.invariant-loop-i
invariant-loop-i l = Unjudged l.s l.n l.all l.last l.k l.i
