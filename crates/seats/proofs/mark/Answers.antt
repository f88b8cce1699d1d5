-- `seats::mark` meets its contract. Assumes nothing.
use borrow.Author.Rules.{rules}
use Rattle.seats.specs.Seats.{marked}
use Rattle.seats.proofs.mark.Goals as goal

pub returns : goal.returns
unfolding marked
returns c = search rules
