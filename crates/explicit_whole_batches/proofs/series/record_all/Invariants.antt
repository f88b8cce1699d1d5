-- `series::record_all` meets its contract: what is recorded so far, and the values left, make the whole. Assumes nothing.
use mathlib.Core.Path.{◌≡◌}
use lib.ListN.{length, drop}
use Rattle.many.specs.Many.{each}
use Rattle.many.proofs.Turns.{later}
use Rattle.explicit_batches.specs.Values.{Counted}
use Rattle.explicit_whole_batches.specs.Values.{step}
use Rattle.explicit_whole_batches.proofs.series.record_all.Given as goal

abbrev pub invariant-loop-i : goal.invariant-loop-i
invariant-loop-i l =
    (length l.counts ≡ length l.initial.counts)
    × Counted l.bounds l.h.count l.counts
    × (each (step l.bounds l.sums) (record { head = l.initial.h; counts = l.initial.counts }) l.values ≡ later l.i (each (step l.bounds l.sums) (record { head = l.h; counts = l.counts }) (drop l.i l.values)))
