-- `series::record_all` meets its contract: what is recorded so far, and the values left, make the whole. Assumes nothing.
use mathlib.Core.Path.{◌≡◌}
use lib.ListN.{length, drop}
use Rattle.many.specs.Many.{each}
use Rattle.many.proofs.Turns.{later}
use Rattle.exponential_whole_batches.specs.Series.{Sound, step}
use Rattle.exponential_whole_batches.proofs.series.record_all.Given as goal

abbrev pub invariant-loop-i : goal.invariant-loop-i
invariant-loop-i l =
    (length l.pos ≡ length l.initial.pos) × (length l.neg ≡ length l.initial.neg)
    × Sound l.size l.top (record { head = l.h; pos = l.pos; neg = l.neg })
    × (each (step l.size l.top l.sums) (record { head = l.initial.h; pos = l.initial.pos; neg = l.initial.neg }) l.values
    ≡ later l.i (each (step l.size l.top l.sums) (record { head = l.h; pos = l.pos; neg = l.neg }) (drop l.i l.values)))
