-- `explicit_collection::slot::one_more` meets its contract. Assumes nothing.
use Prim.Native.Nat.{◌+◌}
use mathlib.Core.Path.{◌≡◌}
use mathlib.Core.Bool.{true}
use native.Mathlib.Omega.{arith}
use Rattle.explicit_collection.proofs.slot.one_more.Goals as goal

pub returns : goal.returns
returns c =
    let a = c.args in
    let e : a.s.neg ≡ a.s.neg + 0 = omega arith in
    λ j. record { sound = true; points = a.s.points + 1; pos = a.s.pos + a.n; neg = e j }
