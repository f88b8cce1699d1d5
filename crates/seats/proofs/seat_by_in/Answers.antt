-- `seats::seat_by_in` meets its contract. Assumes nothing.
use Prim.Native.Nat.{◌+◌, ◌≤◌}
use mathlib.Core.Path.{◌≡◌, sym, ◌∙◌}
use mathlib.Core.Bool.{true}
use native.Mathlib.Omega.{arith}
use Rattle.directory.specs.View.{Stores, agreesb}
use Rattle.directory.proofs.Laws.{few}
use Rattle.seats.proofs.Seatings.{by-no, by-is, by-there}
use Rattle.seats.proofs.seat_by_in.Goals as goal

pub returns-then-not-agrees : goal.returns-then-not-agrees
returns-then-not-agrees c =
    let stores : Stores = record { sets = c.args.sets.now; entries = c.args.entries.now; order = c.args.order.now } in
    sym (by-no c.args.limit c.args.d (stores) c.args.h (sym c.agrees.ensures ∙ c.if-not-agrees.true))

pub by_handle-found-requires : goal.by_handle-found-requires
by_handle-found-requires c =
    let stores : Stores = record { sets = c.args.sets.now; entries = c.args.entries.now; order = c.args.order.now } in
    let right : agreesb c.args.limit c.args.d (stores) ≡ true = sym c.agrees.ensures ∙ c.if-not-agrees.false in
    let few-of : c.args.d.used ≤ c.args.limit + 1 = few c.args.limit c.args.d (stores) (right) in
    (omega (arith, few-of, c.requires.1), omega (arith, few-of, c.requires.2), record { limit = c.args.limit; sets = c.args.sets.now; right = right })

pub found_seat-requires : goal.found_seat-requires
found_seat-requires c x e =
    let stores : Stores = record { sets = c.args.sets.now; entries = c.args.entries.now; order = c.args.order.now } in
    let right : agreesb c.args.limit c.args.d (stores) ≡ true = sym c.agrees.ensures ∙ c.if-not-agrees.false in
    (by-there c.args.limit c.args.d (stores) c.args.h c.requires.1 (right) x (sym c.by_handle-found.ensures ∙ e)).1

pub returns : goal.returns
returns c =
    let stores : Stores = record { sets = c.args.sets.now; entries = c.args.entries.now; order = c.args.order.now } in
    let right : agreesb c.args.limit c.args.d (stores) ≡ true = sym c.agrees.ensures ∙ c.if-not-agrees.false in
    c.found_seat.ensures c.args.sets.now c.args.order.now
    ∙ sym (by-is c.args.limit c.args.d (stores) c.args.h (right) c.by_handle-found.result (sym c.by_handle-found.ensures))
