use mathlib.Core.Path.{sym, subst}
use native.Mathlib.Omega.{arith}
use Rattle.merges.specs.declared.Plan.{Plan}
use Rattle.merges.specs.Merges.{Lendable}
use Rattle.merges.proofs.Merging as merging
use Rattle.merges.proofs.merge_to.Goals as goal

pub join_to-p-requires : goal.join_to-p-requires
join_to-p-requires c =
    let a = c.args in
    subst (λ (o : Plan). Lendable a.a.pos o.first a.apos.now a.b.pos o.second a.bpos.now a.pos.now) (sym c.requires.to_value)
    (merging.lendable-pos a.size a.a a.apos.now a.aneg.now a.b a.bpos.now a.bneg.now c.requires.agreeing a.pos.now a.neg.now c.requires.roomy)

pub join_to-n-requires : goal.join_to-n-requires
join_to-n-requires c =
    let a = c.args in
    subst (λ (o : Plan). Lendable a.a.neg o.first a.aneg.now a.b.neg o.second a.bneg.now a.neg.now) (sym c.requires.to_value)
    (merging.lendable-neg a.size a.a a.apos.now a.aneg.now a.b a.bpos.now a.bneg.now c.requires.agreeing a.pos.now a.neg.now c.requires.roomy)

pub overflow_add-result : goal.overflow_add-result
overflow_add-result c =
    omega (arith, c.requires.agreeing.count)

pub overflow_add-result-2 : goal.overflow_add-result-2
overflow_add-result-2 c =
    let a = c.args in
    omega (arith, merging.zeros-fit a.size a.a a.apos.now a.aneg.now a.b a.bpos.now a.bneg.now c.requires.agreeing)

pub returns : goal.returns
returns c =
    let a = c.args in
    merging.written a.size a.a a.apos.now a.aneg.now a.b a.bpos.now a.bneg.now c.requires.agreeing a.to a.pos.now a.neg.now c.join_to-p.new.out c.join_to-n.new.out c.join_to-p.result c.join_to-n.result c.requires.to_value c.join_to-p.ensures c.join_to-n.ensures
