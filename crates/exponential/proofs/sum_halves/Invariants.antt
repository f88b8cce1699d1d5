use Rattle.std.proofs.Common.{◌≡◌, ◌+◌, ◌*◌, ◌/◌, ◌%◌, ◌≤◌, take}
use Rattle.laws.specs.Counting.{sum}
use Rattle.exponential.proofs.sum_halves.Given as goal

abbrev pub invariant-loop-x : goal.invariant-loop-x
invariant-loop-x l =
    (l.low ≡ l.initial.low + sum (λ x. x % 4294967296) (take l.x-index l.counts)) × (l.high ≡ l.initial.high + sum (λ x. x / 4294967296) (take l.x-index l.counts))
    × (l.low ≤ l.initial.low + l.x-index * 4294967295) × (l.high ≤ l.initial.high + l.x-index * 4294967295)
