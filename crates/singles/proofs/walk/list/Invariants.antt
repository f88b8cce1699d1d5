-- `singles::walk::list` meets its contract. Assumes nothing.
use mathlib.Core.List.{[]}
use Rattle.collecting.specs.Lister.{Lister}
use Rattle.collecting.specs.Slots.{walked}
use Rattle.collecting.proofs.Loops.{Listing}
use Rattle.singles.specs.Stores.{single_store}
use Rattle.singles.specs.Points.{as_words, single_lister}
use Rattle.singles.specs.Inner.{place}
use Rattle.singles.specs.declared.Aggregation.TheVariants.{Sum}
use Rattle.singles.proofs.walk.list.Given as goal

abbrev L : Lister (single_store Sum)
L = single_lister Sum

abbrev pub invariant-loop-i : goal.invariant-loop-i
invariant-loop-i l =
    Listing L tt l.cumulative (walked l.used l.sets l.entries l.order l.values)
    (record { sets = l.initial.out_sets; words = as_words l.initial.out_values; pos = []; neg = [] }) l.i (place l.at)
    (record { sets = l.out_sets; words = as_words l.out_values; pos = []; neg = [] })
