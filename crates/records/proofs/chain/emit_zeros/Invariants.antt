-- `records::chain::emit_zeros` meets its contract. Assumes nothing.
use mathlib.Core.Path.{◌≡◌}
use lib.ListN.{replicate}
use Rattle.records.specs.Inner.{laid}
use Rattle.records.proofs.chain.emit_zeros.Given as goal

abbrev pub invariant-loop-i : goal.invariant-loop-i
invariant-loop-i l = l.s ≡ laid l.info l.n l.k (replicate l.i 0) l.initial.s
