-- `sets::set_row::parting` meets its contract. Assumes nothing.
use Prim.Native.Nat.{ℕ, ◌≤◌}
use mathlib.Core.Path.{◌≡◌, sym, subst}
use mathlib.Core.Logic.{⊎_elim}
use native.Mathlib.Nat.{eq-or-lt_of_le}
use native.Mathlib.Omega.{arith}
use lib.ListN.{get_or}
use Rattle.sets.proofs.set_row.parting.Goals as goal

pub loop-i-init : goal.loop-i-init
loop-i-init c = (omega arith, c.requires, (λ j g h. absurd (omega arith)))

pub returns-then-a-i : goal.returns-then-a-i
returns-then-a-i c =
    record { least = c.loop-i.invariant.0; most = c.loop-i.invariant.1; alike = c.loop-i.invariant.2; apart = λ h. c.if-a-i.true }

pub loop-i-preserved : goal.loop-i-preserved
loop-i-preserved c =
    (omega (arith, c.loop-i.invariant.0), omega arith, (λ j g h. ⊎_elim (λ e. subst (λ (k : ℕ). get_or c.args.a.now k 0 ≡ get_or c.args.b.now k 0) (sym e) c.if-a-i.false) (λ u. c.loop-i.invariant.2 j g u) (eq-or-lt_of_le (let w : j ≤ c.loop-i.i = omega arith in w))))

pub returns : goal.returns
returns c =
    record { least = c.requires; most = omega arith; alike = λ j g h. c.loop-i.invariant.2 j g (omega arith); apart = λ h. absurd (omega arith) }
