-- `directory::find::find` meets its contract: the scan's answer, found by halving. Assumes nothing.
use Rattle.std.proofs.Common.{◌≡◌, ℕ, ◌-◌, ◌<◌, ◌≤◌, [], get_or}
use Prim.Native.Nat.{Ordering}
use Rattle.tally.specs.Sets.{cmp}
use Rattle.sets.specs.Rows.{span, set_of}
use Rattle.directory.specs.View.{seek, sought}
use Rattle.directory.proofs.find.find.Given as goal

-- the set is after those at places below `low`, and before those from `high` on
abbrev pub invariant-loop-low : goal.invariant-loop-low
invariant-loop-low l =
    (l.low ≤ l.high) × (l.high ≤ l.used)
    × ((k : ℕ) → k < l.low → cmp (set_of l.wanted) (set_of (get_or l.sets (get_or l.order k 0) [])) ≡ Ordering.gt)
    × ((k : ℕ) → l.high ≤ k → k < l.used → cmp (set_of l.wanted) (set_of (get_or l.sets (get_or l.order k 0) [])) ≡ Ordering.lt)
    × (sought (set_of l.wanted) l.used l.sets l.order ≡ seek (set_of l.wanted) l.sets (span l.order 0 (l.used - 0)) 0)

abbrev pub decreases-loop-low : goal.decreases-loop-low
decreases-loop-low l = l.high - l.low
