-- `explicit_collection::walk::survey` meets its contract. Assumes nothing.
use mathlib.Core.Bool.{true}
use mathlib.Core.List.{[]}
use Rattle.collecting.specs.Slots.{sound_of, walked}
use Rattle.collecting.proofs.Loops.{Surveyed}
use Rattle.explicit_collection.specs.Points.{explicit_lister}
use Rattle.explicit_collection.proofs.walk.survey.Given as goal

abbrev pub invariant-loop-i : goal.invariant-loop-i
invariant-loop-i l =
    Surveyed (explicit_lister l.bounds) (true, true) l.cumulative (walked l.used [] l.entries l.order (record { totals = l.totals; extremes = l.extremes; counts = l.counts })) l.i (sound_of l.found)
