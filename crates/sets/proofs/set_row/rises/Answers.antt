-- `sets::set_row::rises` meets its contract. Assumes nothing.
use Prim.Native.Nat.{ℕ, ◌-◌}
use mathlib.Core.Path.{◌≡◌, sym, subst}
use mathlib.Core.Bool.{true}
use native.Mathlib.Omega.{arith}
use borrow.Author.Tests.{lt-ltb, le-ltb}
use Rattle.sets.specs.All.{allb}
use Rattle.sets.specs.Rows.{key_at}
use Rattle.sets.proofs.Alls.{allb-yes, allb-more, allb-no}
use Rattle.sets.proofs.set_row.rises.Goals as goal

pub loop-i-init : goal.loop-i-init
loop-i-init c = (omega arith, omega arith, omega arith, allb-yes _ _ c.requires.2)

pub returns-then-row-i : goal.returns-then-row-i
returns-then-row-i c =
    sym (allb-no (key_at c.args.row.now) (c.args.n - 1) c.loop-i.i (omega arith) (le-ltb _ _ c.if-row-i.true))

pub loop-i-preserved : goal.loop-i-preserved
loop-i-preserved c =
    (omega arith, c.loop-i.invariant.1, c.loop-i.invariant.2, allb-more _ _ c.loop-i.invariant.3 (lt-ltb _ _ c.if-row-i.false))

pub returns : goal.returns
returns c =
    let e : c.loop-i.i ≡ c.args.n - 1 = omega arith in
    sym (subst (λ (k : ℕ). allb k (key_at c.args.row.now) ≡ true) e c.loop-i.invariant.3)
