-- `pooling::write::start_of` meets its contract. Assumes nothing.
use mathlib.Core.Path.{sym}
use Rattle.laws.proofs.Bools.{pick_true, pick-false}
use Rattle.pooling.proofs.write.start_of.Goals as goal

pub returns-then-ok : goal.returns-then-ok
returns-then-ok c = let a = c.args in sym (pick_true a.ok a.place a.many c.if-ok.true)

pub returns : goal.returns
returns c = let a = c.args in sym (pick-false a.ok a.place a.many c.if-ok.false)
