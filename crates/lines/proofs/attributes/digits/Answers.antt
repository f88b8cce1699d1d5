-- `lines::attributes::digits` meets its contract. Assumes nothing.
use Prim.Native.Nat.{ℕ, min, ◌+◌, ◌-◌}
use mathlib.Core.Path.{◌≡◌, subst}
use native.Mathlib.Omega.{arith}
use lib.ListN.{length}
use Rattle.lines.specs.Scanned.{Read}
use Rattle.lines.proofs.attributes.digits.Goals as goal

pub returns-then-left-ge10 : goal.returns-then-left-ge10
returns-then-left-ge10 c =
    let a = c.args in
    let bs = a.bytes.now in
    let e : a.from + 10 ≡ min (a.from + 10) (length bs) = omega arith in
    subst (λ (n : ℕ). Read bs a.from n c.run.result.x c.run.result.to) e c.run.ensures

pub returns : goal.returns
returns c =
    let a = c.args in
    let bs = a.bytes.now in
    let e : a.from + (length bs - a.from) ≡ min (a.from + 10) (length bs) = omega arith in
    subst (λ (n : ℕ). Read bs a.from n c.run-2.result.x c.run-2.result.to) e c.run-2.ensures
