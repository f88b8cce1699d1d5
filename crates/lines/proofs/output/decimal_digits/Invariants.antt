-- `lines::output::decimal_digits` meets its contract, and ends: what is left gets less. Assumes nothing.
use Rattle.std.proofs.Common.{◌≡◌, suc, ◌^◌, ◌<◌, ◌≤◌, ◌++◌, drop}
use Rattle.lines.specs.Written.{digits_within, decimal}
use Rattle.lines.proofs.output.decimal_digits.Given as goal

-- what is left has no more digits than there is room for, and they come before those that were put
abbrev pub invariant-loop-rest : goal.invariant-loop-rest
invariant-loop-rest l =
    (l.i ≤ 19) × (l.rest < 10 ^ suc l.i) × (digits_within (suc l.i) l.rest ++ drop (suc l.i) l.digits ≡ decimal l.x)

abbrev pub decreases-loop-rest : goal.decreases-loop-rest
decreases-loop-rest l = l.rest
