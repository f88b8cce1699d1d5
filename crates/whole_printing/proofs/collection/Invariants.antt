-- `whole_printing::collection` meets its contract: what waits in the end is what the points left give from here. Assumes nothing.
use Prim.Native.Nat.{◌-◌}
use mathlib.Core.Path.{◌≡◌}
use Rattle.listing.specs.Listed.{Output}
use Rattle.lines.specs.Gathered.{◌behind◌}
use Rattle.printing.specs.Printed.{lines_by}
use Rattle.whole_printing.specs.Printed.{line_at, next_at}
use Rattle.whole_printing.proofs.collection.Given as goal

abbrev pub invariant-loop-i : goal.invariant-loop-i
invariant-loop-i l =
    let o : Output = record { sets = l.sets; words = l.words; pos = l.pos; neg = l.neg } in
    ((lines_by (λ c. line_at c o l.bounds) (λ c. next_at c o) (l.many - l._i) l.done.at behind record { count = l.done.n; block = l.text })
    ≡ (lines_by (λ c. line_at c o l.bounds) (λ c. next_at c o) l.many (record { place = 0; pos = 0; neg = 0 }) behind record { count = l.m; block = l.initial.text }))
