-- `directory::check::one_by_one` meets its contract. Assumes nothing.
use Rattle.std.proofs.Common.{◌≡◌, ◌-◌, ◌≤◌, true, [], get_or}
use Rattle.sets.specs.All.{allb}
use Rattle.sets.specs.Rows.{soundb}
use Rattle.directory.specs.View.{plainly}
use Rattle.directory.specs.Inner.{step_at}
use Rattle.directory.proofs.check.one_by_one.Given as goal

abbrev pub invariant-loop-i : goal.invariant-loop-i
invariant-loop-i l =
    (l.i ≤ l.used) × (l.p ≤ l.used) × ((l.i ≡ 0 → ⊥) → (l.p ≡ get_or l.order (l.i - 1) 0) × (1 ≤ l.p)) × ((l.i ≡ 0 → ⊥) → soundb (get_or l.sets l.p []) ≡ true) × (allb l.i (step_at l.sets l.order l.used) ≡ true) × (l.plain ≡ plainly l.sets l.order l.i) × (l.plain ≤ l.i)
