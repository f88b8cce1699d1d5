-- `records::chain::are_zeros` meets its contract. Assumes nothing.
use mathlib.Core.Path.{◌≡◌}
use mathlib.Core.Bool.{true}
use Rattle.sets.specs.All.{allb}
use Rattle.records.specs.Inner.{zero_at}
use Rattle.records.proofs.chain.are_zeros.Given as goal

abbrev pub invariant-loop-i : goal.invariant-loop-i
invariant-loop-i l = allb l.i (zero_at l.s l.k) ≡ true
