-- `exponential_collection::walk::list` meets its contract. Assumes nothing.
use Rattle.collecting.specs.Slots.{walked}
use Rattle.collecting.proofs.Loops.{Listing}
use Rattle.exponential_collection.specs.Points.{exponential_lister}
use Rattle.exponential_collection.proofs.walk.list.Given as goal

abbrev pub invariant-loop-i : goal.invariant-loop-i
invariant-loop-i l =
    Listing (exponential_lister l.size l.top) (l.show, l.sums) l.cumulative (walked l.used l.sets l.entries l.order (record { figures = l.figures; extremes = l.extremes; pos = l.pos; neg = l.neg }))
    (record { sets = l.initial.out_sets; words = l.initial.out_words; pos = l.initial.out_pos; neg = l.initial.out_neg }) l.i l.at
    (record { sets = l.out_sets; words = l.out_words; pos = l.out_pos; neg = l.out_neg })
