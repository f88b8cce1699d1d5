-- `exponential::sums::add_row` meets its contract. Assumes nothing.
use Rattle.std.proofs.Common.{◌≡◌, ◌+◌, ◌*◌, ◌%◌, ◌≤◌, take}
use Rattle.laws.specs.Counting.{total}
use Rattle.exponential.proofs.sums.add_row.Given as goal

abbrev pub invariant-loop-x : goal.invariant-loop-x
invariant-loop-x l =
    (l.sum ≡ (l.initial.sum + total (take l.x-index l.counts)) % 18446744073709551616) × (l.initial.most ≤ l.most) × (total (take l.x-index l.counts) ≤ l.x-index * l.most)
