-- `seats::found_seat` meets its contract. Assumes nothing.
use Prim.Native.Nat.{ℕ}
use mathlib.Core.Path.{ap, sym, ◌∙◌}
use mathlib.Core.List.{List}
use Rattle.directory.specs.View.{Stores}
use Rattle.seats.specs.Seats.{seat_by}
use Rattle.seats.proofs.found_seat.Goals as goal

pub held_seat-requires : goal.held_seat-requires
held_seat-requires c = c.requires c.in-Ok.x c.in-Ok.is

pub returns-in-Err : goal.returns-in-Err
returns-in-Err c sets order =
    let stores : List (List ℕ) → List ℕ → Stores = λ sets order. record { sets = sets; entries = c.args.entries.now; order = order } in
    sym (ap (seat_by (stores sets order)) c.in-Err.is)

pub returns-in-Ok : goal.returns-in-Ok
returns-in-Ok c sets order =
    let stores : List (List ℕ) → List ℕ → Stores = λ sets order. record { sets = sets; entries = c.args.entries.now; order = order } in
    c.held_seat.ensures ∙ sym (ap (seat_by (stores sets order)) c.in-Ok.is)
