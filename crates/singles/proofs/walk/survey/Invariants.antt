-- `singles::walk::survey` meets its contract. Assumes nothing.
use mathlib.Core.List.{[]}
use Rattle.collecting.specs.Slots.{sound_of, walked}
use Rattle.collecting.proofs.Loops.{Surveyed}
use Rattle.singles.specs.Points.{single_lister}
use Rattle.singles.proofs.walk.survey.Given as goal

abbrev pub invariant-loop-i : goal.invariant-loop-i
invariant-loop-i l =
    Surveyed (single_lister l.aggregation) tt l.cumulative (walked l.used [] l.entries l.order l.values) l.i (sound_of l.found)
