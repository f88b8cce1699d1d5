-- `seats::held_seat` meets its contract. Assumes nothing.
use mathlib.Core.Path.{ap}
use Rattle.directory.specs.declared.Target.TheVariants.{Old}
use Rattle.seats.proofs.held_seat.Goals as goal

pub returns : goal.returns
returns c = ap (λ u. record { no = 0; slot = c.args.x; updated = u; target = Old c.args.x }) c.is_updated-u.ensures
