-- `sweep::passes::strip` meets its contract. Assumes nothing.
use mathlib.Core.Path.{◌≡◌}
use lib.ListN.{take}
use Rattle.sweep.specs.Passes.{lows}
use Rattle.sweep.proofs.passes.strip.Given as goal

abbrev pub invariant-loop-w : goal.invariant-loop-w
invariant-loop-w l = l.w-items ≡ lows l.w-index (take l.used l.fn.order)
