-- `series::raised` meets its contract. Assumes nothing.
use Prim.Native.Nat.{◌+◌}
use lib.Ieee.{binary64, add}
use Rattle.explicit_batches.proofs.series.raised.Goals as goal

pub returns : goal.returns
returns c =
    let a = c.args in
    λ j. record { count = a.h.count + 1; min = c.lesser-least.ensures j; max = c.greater-greatest.ensures j; sum = add binary64 a.h.sum a.v }
