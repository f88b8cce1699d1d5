-- `point::signed::row_of` meets its contract. Assumes nothing.
use Rattle.laws.specs.Pick.{pick}
use borrow.Author.Rules.{rules}
use Rattle.point.proofs.signed.row_of.Goals as goal

pub returns-then-negative : goal.returns-then-negative
unfolding pick
returns-then-negative c = search rules

pub returns : goal.returns
unfolding pick
returns c = search rules
