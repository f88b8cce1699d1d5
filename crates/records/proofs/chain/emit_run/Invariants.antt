-- `records::chain::emit_run` meets its contract. Assumes nothing.
use mathlib.Core.Path.{◌≡◌}
use lib.ListN.{take}
use Rattle.records.specs.Inner.{laid}
use Rattle.records.proofs.chain.emit_run.Given as goal

abbrev pub invariant-loop-i : goal.invariant-loop-i
invariant-loop-i l = l.s ≡ laid l.info l.n l.k (take l.i l.xs) l.initial.s
