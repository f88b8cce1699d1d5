-- `replay::script` is safe and ends. Assumes nothing.
use Prim.Native.Nat.{◌-◌}
use Rattle.replay.proofs.script.Given as goal

abbrev pub invariant-loop-attrs : goal.invariant-loop-attrs
invariant-loop-attrs l = Unit {0}

abbrev pub decreases-loop-attrs : goal.decreases-loop-attrs
decreases-loop-attrs l =
    18446744073709551615 - l.number
