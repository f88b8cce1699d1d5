-- `lines::attributes::run` meets its contract: the digits up to here say x. Assumes nothing.
use Prim.Native.Nat.{◌-◌, ◌^◌, ◌<◌}
use Rattle.lines.specs.Scanned.{Says}
use Rattle.lines.proofs.attributes.run.Given as goal

abbrev pub invariant-loop-i : goal.invariant-loop-i
invariant-loop-i l = (l.x < 10 ^ (l.i - l.from)) × Says l.bytes l.from l.x l.i
