use Rattle.halving.proofs.Halves.{Lowered}
use Rattle.halving.proofs.downscale.Given as goal

abbrev pub invariant-loop : goal.invariant-loop
invariant-loop l = Lowered l.initial.counts l.counts l.start l.n l.delta l.counter l.s l.len
