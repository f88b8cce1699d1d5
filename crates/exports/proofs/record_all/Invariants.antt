-- `exports::record_all` meets its contract: what is recorded so far, and the values left, make the whole run. Assumes nothing.
use Prim.Native.Nat.{◌-◌}
use mathlib.Core.Path.{◌≡◌}
use lib.ListN.{take, drop}
use Rattle.exponential.specs.Inner.{run_all}
use Rattle.exports.specs.Exports.{recorded}
use Rattle.exports.proofs.record_all.Given as goal

abbrev pub invariant-loop-v : goal.invariant-loop-v
invariant-loop-v l =
    recorded l.size l.top l.initial.pos l.initial.neg l.values
    ≡ run_all l.size l.top (record { head = l.head; pos = l.pos; neg = l.neg }) (take (1000000 - l.v-index) (drop l.v-index l.values))
