use Rattle.std.proofs.Common.{rules}
use Rattle.laws.specs.Pick.{pick}
use Rattle.exponential.proofs.adding.signed_row.Goals as goal

pub returns-then-negative : goal.returns-then-negative
unfolding pick
returns-then-negative c = search rules

pub returns : goal.returns
unfolding pick
returns c = search rules
