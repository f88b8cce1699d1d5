-- `directory::write::insert` meets its contract. Assumes nothing.
use Rattle.std.proofs.Common.{◌≡◌, ℕ, ◌+◌, ◌-◌, List, get_or, set, refl, ap, ◌∙◌, arith, length-set}
use Rattle.sets.proofs.Moved.{moved, start, turn, finish}
use Rattle.directory.proofs.write.insert.Goals as goal

pub loop-i-init : goal.loop-i-init
loop-i-init c =
    (omega arith, omega arith, refl, start c.args.order.now c.args.used c.requires.1)

pub loop-i-preserved : goal.loop-i-preserved
loop-i-preserved c =
    let e : c.loop-i.i - 1 + 1 ≡ c.loop-i.i = omega arith in
    (omega arith, omega arith, length-set c.loop-i.order (c.loop-i.i - 1 + 1) _ ∙ c.loop-i.invariant.2, ap (λ (k : ℕ). set c.loop-i.order k (get_or c.loop-i.order (c.loop-i.i - 1) 0)) e ∙ ap (λ (o : List ℕ). set o c.loop-i.i (get_or o (c.loop-i.i - 1) 0)) c.loop-i.invariant.3 ∙ turn c.args.order.now c.args.used c.requires.1 c.loop-i.i (omega arith) c.loop-i.invariant.1)

pub shape_of-order : goal.shape_of-order
shape_of-order c =
    length-set c.loop-i.order _ _ ∙ c.loop-i.invariant.2

pub returns : goal.returns
returns c =
    let e : c.loop-i.i ≡ c.args.at = omega arith in
    ap (λ (o : List ℕ). set o c.args.at c.args.slot) (c.loop-i.invariant.3 ∙ ap (moved c.args.order.now c.args.used) e)
    ∙ finish c.args.order.now c.args.used c.requires.1 c.args.at c.args.slot c.requires.0
