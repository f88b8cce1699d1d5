-- `sheets::set_rows::zeros_from` meets its contract. Assumes nothing.
use Prim.Native.Nat.{ℕ, ◌-◌}
use mathlib.Core.Path.{◌≡◌, sym, subst}
use mathlib.Core.Bool.{true}
use native.Mathlib.Omega.{arith}
use Rattle.sets.specs.All.{allb}
use Rattle.sets.proofs.Alls.{allb-none}
use Rattle.sheets.proofs.SetLaws.{zero_from, zero_more, zero-not}
use Rattle.sheets.proofs.set_rows.zeros_from.Goals as goal

pub loop-i-init : goal.loop-i-init
loop-i-init c =
    let f = zero_from c.args.row.now c.args.n in
    let e : 0 ≡ c.args.n - c.args.n = omega arith in
    (omega arith, c.requires, subst (λ (k : ℕ). allb k f ≡ true) e (allb-none f))

pub returns-then-row-i-ne0 : goal.returns-then-row-i-ne0
returns-then-row-i-ne0 c =
    zero-not c.args.row.now c.args.n c.loop-i.i c.loop-i.invariant.0 c.loop-i-test.true c.if-row-i-ne0.true

pub loop-i-preserved : goal.loop-i-preserved
loop-i-preserved c =
    (omega arith, omega arith, zero_more c.args.row.now c.args.n c.loop-i.i c.loop-i.invariant.0 c.loop-i.invariant.2 c.if-row-i-ne0.false)

pub returns : goal.returns
returns c =
    let e : c.loop-i.i - c.args.n ≡ 8 - c.args.n = omega arith in
    sym (subst (λ (k : ℕ). allb k (zero_from c.args.row.now c.args.n) ≡ true) e c.loop-i.invariant.2)
