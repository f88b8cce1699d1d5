-- `directory::write::insert` meets its contract. Assumes nothing.
use Rattle.std.proofs.Common.{◌≡◌, ◌≤◌, length}
use Rattle.sets.proofs.Moved.{moved}
use Rattle.directory.proofs.write.insert.Given as goal

abbrev pub invariant-loop-i : goal.invariant-loop-i
invariant-loop-i l = (l.at ≤ l.i) × (l.i ≤ l.used) × (length l.order ≡ length l.initial.order) × (l.order ≡ moved l.initial.order l.used l.i)
