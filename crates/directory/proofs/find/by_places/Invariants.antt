-- `directory::find::by_places` meets its contract. Assumes nothing.
use Rattle.std.proofs.Common.{◌≡◌, ◌-◌, ◌∷◌}
use Rattle.sets.specs.Rows.{span}
use Rattle.directory.specs.Calls.{scan}
use Rattle.directory.proofs.find.by_places.Given as goal

abbrev pub invariant-loop-q : goal.invariant-loop-q
invariant-loop-q l = scan l.h l.entries (0 ∷ span l.order 0 l.used) ≡ scan l.h l.entries (span l.order l.q-index (l.used - l.q-index))
