-- `seats::seat_in` meets its contract. Assumes nothing.
use mathlib.Core.Path.{sym, ◌∙◌}
use Rattle.directory.specs.View.{Stores}
use Rattle.seats.proofs.Seatings.{seat-no}
use Rattle.seats.proofs.seat_in.Goals as goal

pub returns-then-not-agrees : goal.returns-then-not-agrees
returns-then-not-agrees c =
    let stores : Stores = record { sets = c.args.sets.now; entries = c.args.entries.now; order = c.args.order.now } in
    sym (seat-no c.args.limit c.args.d (stores) c.args.row.now (sym c.agrees.ensures ∙ c.if-not-agrees.true))

pub seat_right-requires : goal.seat_right-requires
seat_right-requires c =
    (c.requires.0, c.requires.1, c.requires.2, c.requires.3, sym c.agrees.ensures ∙ c.if-not-agrees.false)
