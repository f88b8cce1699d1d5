use mathlib.Core.Path.{◌≡◌, sym, ◌∙◌}
use Prim.Native.Nat.{◌-◌}
use native.Mathlib.Omega.{arith}
use Rattle.rows.proofs.Moves.{moved_none, moved_all, moved-turn}
use Rattle.rows.proofs.shift.Goals as goal

pub loop-j-init : goal.loop-j-init
loop-j-init c = sym (moved_none _ _ _)

pub loop-j-preserved : goal.loop-j-preserved
loop-j-preserved c =
    let l = c.loop-j in
    let a = c.args in
    moved-turn a.n a.k l.j (l.j - 1) a.counts.now l.counts (omega (arith, c.loop-j-test.true)) l.auto.j c.requires l.invariant

pub returns : goal.returns
returns c =
    let l = c.loop-j in
    let e : l.j ≡ 0 = omega (arith, c.loop-j-test.false) in
    (rw e at l.invariant) ∙ moved_all _ _ _
