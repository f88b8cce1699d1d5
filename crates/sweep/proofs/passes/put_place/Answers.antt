-- `sweep::passes::put_place` meets its contract. Assumes nothing.
use mathlib.Core.Path.{ap, sym, ◌∙◌}
use Prim.Native.Nat.{ℕ, ◌+◌, ◌*◌}
use borrow.Author.Tests.{eq-eqb, ne_eqb}
use lib.ListN.{set}
use Rattle.laws.proofs.Bools.{pick_true, pick-false}
use Rattle.sweep.proofs.passes.put_place.Goals as goal

pub returns-then-m-eq0 : goal.returns-then-m-eq0
returns-then-m-eq0 c =
    let e = eq-eqb c.args.m 0 c.if-m-eq0.true in
    (sym (pick_true _ _ _ e), sym (pick_true _ _ _ e))

pub pack-requires : goal.pack-requires
pack-requires c = (c.requires.1, c.high-h.ensures.1)

pub returns : goal.returns
returns c =
    let e = ne_eqb c.args.m 0 c.if-m-eq0.false in
    (sym (pick-false _ _ _ e), ap (set c.args.order.now c.args.w) (c.pack.ensures ∙ ap (λ (n : ℕ). c.args.m + 65536 * n) c.high-h.ensures.0) ∙ sym (pick-false _ _ _ e))
