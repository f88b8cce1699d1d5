-- `directory::alike::pass` meets its contract. Assumes nothing.
use Rattle.std.proofs.Common.{◌≡◌, ℕ, ◌-◌, ◌<◌, ◌≤◌, get_or}
use Rattle.directory.specs.Inner.{row_at}
use Rattle.directory.proofs.Likes.{Passed}
use Rattle.directory.proofs.alike.pass.Given as goal

abbrev pub invariant-loop-i : goal.invariant-loop-i
invariant-loop-i l =
    (1 ≤ l.i) × (l.i ≤ l.used) × (l.prev ≡ get_or (row_at l.sets l.order (l.i - 1)) l.from 0) × ((k : ℕ) → k < l.i → Passed l.used l.sets l.order l.from l.d k)
