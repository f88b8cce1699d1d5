-- `directory::find::born_by` meets its contract: the last slot that was born by a number, found by halving. Assumes nothing.
use Rattle.std.proofs.Common.{ℕ, ◌+◌, ◌-◌, ◌<◌, ◌≤◌}
use Rattle.directory.specs.View.{birth_at}
use Rattle.directory.proofs.find.born_by.Given as goal

-- slot `low` was born by h, those from `high` on were not
abbrev pub invariant-loop-low : goal.invariant-loop-low
invariant-loop-low l =
    (l.low < l.high) × (l.high ≤ l.used + 1) × (birth_at l.entries l.low ≤ l.h) × ((y : ℕ) → l.high ≤ y → y ≤ l.used → l.h < birth_at l.entries y)

abbrev pub decreases-loop-low : goal.decreases-loop-low
decreases-loop-low l = l.high - l.low
