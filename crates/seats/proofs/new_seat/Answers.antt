-- `seats::new_seat` meets its contract. Assumes nothing.
use mathlib.Core.Path.{sym}
use Rattle.seats.proofs.Seatings.{new-spent, new-made}
use Rattle.seats.proofs.new_seat.Goals as goal

pub returns-then-d-ge18446744073709551615 : goal.returns-then-d-ge18446744073709551615
returns-then-d-ge18446744073709551615 c = sym (new-spent c.args.d c.args.target c.if-d-ge18446744073709551615.true)

pub returns : goal.returns
returns c = sym (new-made c.args.d c.args.target c.if-d-ge18446744073709551615.false)
