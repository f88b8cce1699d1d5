-- `pooling::entries::refusal_entries` meets its contract. Assumes nothing.
use mathlib.Core.List.{[]}
use Rattle.refusals.specs.Refusals.{code}
use Rattle.pooling.proofs.Whole.{asked_law}
use Rattle.pooling.proofs.entries.refusal_entries.Goals as goal

pub returns : goal.returns
returns c =
    let a = c.args in
    asked_law a.size a.a a.e a.abounds.now (record { sets = []; words = []; pos = a.apos.now; neg = a.aneg.now })
    a.b a.f a.bbounds.now (record { sets = []; words = []; pos = a.bpos.now; neg = a.bneg.now }) (code c.refusal.result) c.refusal.ensures
