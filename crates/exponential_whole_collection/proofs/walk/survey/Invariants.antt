-- `exponential_whole_collection::walk::survey` meets its contract. Assumes nothing.
use mathlib.Core.Bool.{true}
use mathlib.Core.List.{[]}
use Rattle.collecting.specs.Slots.{sound_of, walked}
use Rattle.collecting.proofs.Loops.{Surveyed}
use Rattle.exponential_whole_collection.specs.Points.{exponential_whole_lister}
use Rattle.exponential_whole_collection.proofs.walk.survey.Given as goal

abbrev pub invariant-loop-i : goal.invariant-loop-i
invariant-loop-i l =
    Surveyed (exponential_whole_lister l.size l.top true) true l.cumulative (walked l.used [] l.entries l.order (record { figures = l.figures; extremes = l.extremes; pos = l.pos; neg = l.neg })) l.i (sound_of l.found)
