-- `sweep::moves::move_set` meets its contract. Assumes nothing.
use mathlib.Core.Path.{◌≡◌, sym, subst, ◌∙◌}
use Prim.Native.Nat.{ℕ}
use mathlib.Core.List.{[]}
use borrow.Author.Tests.{eq-eqb, ne_eqb}
use lib.ListN.{get_or, set}
use lib.Seq.{set-get_or}
use Rattle.laws.proofs.Bools.{pick_true, pick-false}
use Rattle.sweep.proofs.moves.move_set.Goals as goal

pub returns-then-m-eq0 : goal.returns-then-m-eq0
returns-then-m-eq0 c = sym (pick_true _ _ _ (eq-eqb c.args.m 0 c.if-m-eq0.true))

pub returns-then-m-x : goal.returns-then-m-x
returns-then-m-x c =
    let e : c.args.x ≡ c.args.m = sym c.if-m-x.true in
    sym (pick-false _ _ _ (ne_eqb c.args.m 0 c.if-m-eq0.false) ∙ subst (λ (r : ℕ). set c.args.sets.now r (get_or c.args.sets.now c.args.x []) ≡ c.args.sets.now) e (set-get_or c.args.sets.now c.args.x []))

pub returns : goal.returns
returns c = sym (pick-false _ _ _ (ne_eqb c.args.m 0 c.if-m-eq0.false))
