-- `pooling::entries::merge_entries` meets its contract. Assumes nothing.
use mathlib.Core.List.{[]}
use native.Mathlib.Omega.{arith}
use Rattle.refusals.specs.Refusals.{said}
use Rattle.pooling.proofs.Whole.{lent_law}
use Rattle.pooling.proofs.entries.merge_entries.Goals as goal

pub overflow_add-l : goal.overflow_add-l
overflow_add-l c =
    omega (arith, c.requires.1.bounds)

pub returns : goal.returns
returns c =
    let a = c.args in
    lent_law a.size a.a a.e a.abounds.now (record { sets = []; words = []; pos = a.apos.now; neg = a.aneg.now })
    a.b a.f a.bbounds.now (record { sets = []; words = []; pos = a.bpos.now; neg = a.bneg.now })
    (said c.merge.result) a.pos.now a.neg.now c.merge.new.pos c.merge.new.neg c.merge.ensures
