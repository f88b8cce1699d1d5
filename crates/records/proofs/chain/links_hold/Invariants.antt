-- `records::chain::links_hold` meets its contract. Assumes nothing.
use mathlib.Core.Path.{◌≡◌}
use mathlib.Core.Bool.{true}
use Rattle.sets.specs.All.{allb}
use Rattle.records.specs.Inner.{link_holds}
use Rattle.records.proofs.chain.links_hold.Given as goal

abbrev pub invariant-loop-r : goal.invariant-loop-r
invariant-loop-r l = allb l.r (link_holds l.info l.n l.s) ≡ true
