-- `listing::decode::same` meets its contract. Assumes nothing.
use Prim.Native.Nat.{ℕ}
use mathlib.Core.Path.{◌≡◌, sym, subst}
use mathlib.Core.Bool.{Bool, true}
use mathlib.Core.List.{List}
use native.Mathlib.Omega.{arith}
use borrow.Author.Tests.{eq-eqb, ne_eqb}
use lib.Dec.{eqb}
use lib.ListN.{get_or}
use Rattle.sets.specs.All.{allb}
use Rattle.sets.proofs.Alls.{allb-none, allb-more, allb-no}
use Rattle.listing.proofs.decode.same.Goals as goal

abbrev alike : List ℕ → List ℕ → ℕ → Bool
alike a b i = eqb (get_or a i 0) (get_or b i 0)

pub loop-i-init : goal.loop-i-init
loop-i-init c = (omega arith, allb-none (alike c.args.a.now c.args.b.now))

pub returns-then-a-i : goal.returns-then-a-i
returns-then-a-i c =
    sym (allb-no (alike c.args.a.now c.args.b.now) 12 c.loop-i.i (omega arith) (ne_eqb _ _ c.if-a-i.true))

pub loop-i-preserved : goal.loop-i-preserved
loop-i-preserved c =
    (omega arith, allb-more (alike c.args.a.now c.args.b.now) c.loop-i.i c.loop-i.invariant.1 (eq-eqb _ _ c.if-a-i.false))

pub returns : goal.returns
returns c =
    let e : c.loop-i.i ≡ 12 = omega arith in
    sym (subst (λ (n : ℕ). allb n (alike c.args.a.now c.args.b.now) ≡ true) e c.loop-i.invariant.1)
