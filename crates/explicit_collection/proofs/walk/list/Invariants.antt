-- `explicit_collection::walk::list` meets its contract. Assumes nothing.
use Rattle.collecting.specs.Slots.{walked}
use Rattle.collecting.proofs.Loops.{Listing}
use Rattle.explicit_collection.specs.Points.{explicit_lister}
use Rattle.explicit_collection.proofs.walk.list.Given as goal

abbrev pub invariant-loop-i : goal.invariant-loop-i
invariant-loop-i l =
    Listing (explicit_lister l.bounds) (l.show, l.sums) l.cumulative (walked l.used l.sets l.entries l.order (record { totals = l.totals; extremes = l.extremes; counts = l.counts }))
    (record { sets = l.initial.out_sets; words = l.initial.out_words; pos = l.initial.out_pos; neg = l.initial.out_neg }) l.i l.at
    (record { sets = l.out_sets; words = l.out_words; pos = l.out_pos; neg = l.out_neg })
