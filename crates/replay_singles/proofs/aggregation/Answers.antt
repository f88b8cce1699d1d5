-- `replay_singles::aggregation` meets its contract. Assumes nothing.
use mathlib.Core.Path.{sym}
use borrow.Author.Tests.{eq-eqb, ne_eqb}
use Rattle.laws.proofs.Bools.{pick_true, pick-false}
use Rattle.replay_singles.proofs.aggregation.Goals as goal

pub returns-then-s-eq115 : goal.returns-then-s-eq115
returns-then-s-eq115 c = sym (pick_true _ _ _ (eq-eqb _ _ c.if-s-eq115.true))

pub returns : goal.returns
returns c = sym (pick-false _ _ _ (ne_eqb _ _ c.if-s-eq115.false))
