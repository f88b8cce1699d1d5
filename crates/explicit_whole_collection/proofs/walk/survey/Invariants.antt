-- `explicit_whole_collection::walk::survey` meets its contract. Assumes nothing.
use mathlib.Core.Bool.{true}
use mathlib.Core.List.{[]}
use lib.ListN.{length, replicate}
use Rattle.collecting.specs.Slots.{sound_of, walked}
use Rattle.collecting.proofs.Loops.{Surveyed}
use Rattle.explicit_whole_collection.specs.Points.{explicit_whole_lister}
use Rattle.explicit_whole_collection.proofs.walk.survey.Given as goal

abbrev pub invariant-loop-i : goal.invariant-loop-i
invariant-loop-i l =
    Surveyed (explicit_whole_lister l.bounds true) true l.cumulative (walked l.used [] l.entries l.order (record { totals = l.totals; extremes = replicate (length l.totals) []; counts = l.counts })) l.i (sound_of l.found)
