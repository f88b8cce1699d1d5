-- `single_batches::slot::fold` meets its contract: what is held so far, and the values left, make the whole. Assumes nothing.
use mathlib.Core.Path.{◌≡◌}
use lib.ListN.{drop}
use Rattle.many.specs.Many.{each}
use Rattle.many.proofs.Turns.{later}
use Rattle.single_batches.specs.Inner.{stepped}
use Rattle.single_batches.proofs.slot.fold.Given as goal

abbrev pub invariant-loop-i : goal.invariant-loop-i
invariant-loop-i l = each (stepped l.aggregation) l.held l.list ≡ later l.i (each (stepped l.aggregation) l.y (drop l.i l.list))
