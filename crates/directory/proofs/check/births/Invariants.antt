-- `directory::check::births` meets its contract. Assumes nothing.
use Rattle.std.proofs.Common.{◌≡◌, ◌-◌, ◌≤◌, true}
use Rattle.sets.specs.All.{allb}
use Rattle.directory.specs.View.{born_at, birth_at}
use Rattle.directory.proofs.check.births.Given as goal

abbrev pub invariant-loop-i : goal.invariant-loop-i
invariant-loop-i l = (l.i ≤ l.used) × (l.prev ≡ birth_at l.entries l.i) × (allb l.i (born_at l.entries) ≡ true)

abbrev pub decreases-loop-i : goal.decreases-loop-i
decreases-loop-i l = l.used - l.i
