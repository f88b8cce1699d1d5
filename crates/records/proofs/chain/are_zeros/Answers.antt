-- `records::chain::are_zeros` meets its contract. Assumes nothing.
use mathlib.Core.Path.{◌≡◌, sym, subst}
use mathlib.Core.Bool.{true}
use Prim.Native.Nat.{ℕ, ◌+◌}
use native.Mathlib.Omega.{arith}
use lib.ListN.{length}
use Rattle.sets.specs.All.{allb}
use Rattle.sets.proofs.Alls.{allb-none, allb-more, allb-no}
use Rattle.records.specs.Inner.{cell_at, zero_at}
use Rattle.records.proofs.Laid.{cell_room}
use borrow.Author.Tests.{eq-eqb, ne_eqb}
use Rattle.records.proofs.chain.are_zeros.Goals as goal

pub loop-i-init : goal.loop-i-init
loop-i-init c = allb-none _

pub cell-requires : goal.cell-requires
cell-requires c =
    (omega arith, cell_room c.args.k c.args.m (length c.args.s.now) c.loop-i.i (omega arith) c.requires.1)

pub returns-then-cell-ne0 : goal.returns-then-cell-ne0
returns-then-cell-ne0 c =
    sym (allb-no (zero_at c.args.s.now c.args.k) c.args.m c.loop-i.i c.loop-i-test.true (ne_eqb (cell_at c.args.s.now (c.args.k + c.loop-i.i)) 0 (λ e. omega (arith, c.cell.ensures, c.if-cell-ne0.true))))

pub loop-i-preserved : goal.loop-i-preserved
loop-i-preserved c =
    let z : cell_at c.args.s.now (c.args.k + c.loop-i.i) ≡ 0 = omega (arith, c.cell.ensures, c.if-cell-ne0.false) in
    allb-more (zero_at c.args.s.now c.args.k) c.loop-i.i c.loop-i.invariant (eq-eqb _ 0 z)

pub returns : goal.returns
returns c =
    let e : c.loop-i.i ≡ c.args.m = omega arith in
    sym (subst (λ (j : ℕ). allb j (zero_at c.args.s.now c.args.k) ≡ true) e c.loop-i.invariant)
