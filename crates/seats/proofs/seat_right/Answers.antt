-- `seats::seat_right` meets its contract. Assumes nothing.
use mathlib.Core.Path.{◌≡◌, sym, ◌∙◌}
use native.Mathlib.Omega.{arith}
use Rattle.directory.specs.View.{Stores}
use Rattle.directory.specs.Calls.{located}
use Rattle.directory.specs.declared.Target.TheVariants.{Disagrees, Old, New, Over}
use Rattle.directory.proofs.Located.{new-there, over-there}
use Rattle.seats.proofs.Seatings.{seat-is, old-safe}
use Rattle.seats.proofs.seat_right.Goals as goal

pub held_seat-requires : goal.held_seat-requires
held_seat-requires c =
    let stores : Stores = record { sets = c.args.sets.now; entries = c.args.entries.now; order = c.args.order.now } in
    let old : located c.args.limit c.args.d (stores) c.args.row.now ≡ Old c.in-Old.x = sym c.locate_agreed-t.ensures ∙ c.in-Old.is in
    (old-safe c.args.limit c.args.d (stores) c.args.row.now c.in-Old.x (old) c.requires.1).1

pub new_seat-requires : goal.new_seat-requires
new_seat-requires c =
    let stores : Stores = record { sets = c.args.sets.now; entries = c.args.entries.now; order = c.args.order.now } in
    let new : located c.args.limit c.args.d (stores) c.args.row.now ≡ New c.in-New.r = sym c.locate_agreed-t.ensures ∙ c.in-New.is in
    let n = new-there c.args.limit c.args.d (stores) c.args.row.now c.in-New.r (new) in
    omega (arith, n.1, c.requires.0)

pub new_seat-requires-in-Over : goal.new_seat-requires-in-Over
new_seat-requires-in-Over c =
    let stores : Stores = record { sets = c.args.sets.now; entries = c.args.entries.now; order = c.args.order.now } in
    let over : located c.args.limit c.args.d (stores) c.args.row.now ≡ Over c.in-Over.r = sym c.locate_agreed-t.ensures ∙ c.in-Over.is in
    let n = over-there c.args.limit c.args.d (stores) c.args.row.now c.in-Over.r (over) in
    omega (arith, n.1, c.requires.0)

pub returns-in-Disagrees : goal.returns-in-Disagrees
returns-in-Disagrees c =
    let stores : Stores = record { sets = c.args.sets.now; entries = c.args.entries.now; order = c.args.order.now } in
    sym (seat-is c.args.limit c.args.d (stores) c.args.row.now Disagrees (sym c.locate_agreed-t.ensures ∙ c.in-Disagrees.is))

pub returns-in-Old : goal.returns-in-Old
returns-in-Old c =
    let stores : Stores = record { sets = c.args.sets.now; entries = c.args.entries.now; order = c.args.order.now } in
    let old : located c.args.limit c.args.d (stores) c.args.row.now ≡ Old c.in-Old.x = sym c.locate_agreed-t.ensures ∙ c.in-Old.is in
    c.held_seat.ensures ∙ sym (seat-is c.args.limit c.args.d (stores) c.args.row.now (Old c.in-Old.x) (old))

pub returns-in-New : goal.returns-in-New
returns-in-New c =
    let stores : Stores = record { sets = c.args.sets.now; entries = c.args.entries.now; order = c.args.order.now } in
    let new : located c.args.limit c.args.d (stores) c.args.row.now ≡ New c.in-New.r = sym c.locate_agreed-t.ensures ∙ c.in-New.is in
    c.new_seat.ensures ∙ sym (seat-is c.args.limit c.args.d (stores) c.args.row.now (New c.in-New.r) (new))

pub returns-in-Over : goal.returns-in-Over
returns-in-Over c =
    let stores : Stores = record { sets = c.args.sets.now; entries = c.args.entries.now; order = c.args.order.now } in
    let over : located c.args.limit c.args.d (stores) c.args.row.now ≡ Over c.in-Over.r = sym c.locate_agreed-t.ensures ∙ c.in-Over.is in
    c.new_seat-in-Over.ensures ∙ sym (seat-is c.args.limit c.args.d (stores) c.args.row.now (Over c.in-Over.r) (over))
