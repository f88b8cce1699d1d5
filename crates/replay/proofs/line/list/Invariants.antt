-- `replay::line::list` is safe and ends. Assumes nothing.
use Prim.Native.Nat.{◌+◌, ◌-◌, ◌≤◌}
use lib.ListN.{length}
use Rattle.replay.proofs.line.list.Given as goal

abbrev pub invariant-loop-i : goal.invariant-loop-i
invariant-loop-i l = l.i ≤ length l.line + 2

abbrev pub decreases-loop-i : goal.decreases-loop-i
decreases-loop-i l = (length l.line + 2) - l.i
