-- `seats::seat_by_agreed` meets its contract. Assumes nothing.
use Prim.Native.Nat.{ℕ}
use mathlib.Core.Path.{ap, sym, ◌∙◌}
use mathlib.Core.Bool.{true}
use native.Mathlib.Omega.{arith}
use Rattle.directory.specs.View.{Stores, stores}
use Rattle.directory.proofs.Births.{agreed-rise}
use Rattle.directory.proofs.Laws.{few}
use Rattle.seats.specs.Seats.{seating, away, barred_by, seated_by, Seating}
use Rattle.seats.proofs.Bars.{barred-away, barred-on}
use Rattle.seats.proofs.Seatings.{by-is, by-there}
use Rattle.refusals.specs.declared.Refusal.{Refusal}
use Rattle.refusals.proofs.Numbers.{number-nonzero, passed-on}
use Rattle.seats.proofs.seat_by_agreed.Goals as goal

pub returns-in_err-barred : goal.returns-in_err-barred
returns-in_err-barred c =
    let e : Refusal = c.in_err-barred.field-0.0 in
    let first : ℕ = barred_by true c.args.value 0 true in
    let lent : Stores = stores c.args.sets.now c.args.entries.now c.args.order.now in
    let goes : Seating = seated_by c.args.limit c.args.d (lent) c.args.h in
    ap seating (passed-on c.from_residual.result e c.from_residual.ensures.1) ∙ ap away c.in_err-barred.ensures ∙ sym (barred-away (first) (goes) (λ z. number-nonzero e (c.in_err-barred.ensures ∙ z)))

pub by_birth-found-requires : goal.by_birth-found-requires
by_birth-found-requires c =
    let lent : Stores = stores c.args.sets.now c.args.entries.now c.args.order.now in (
      omega (arith, few c.args.limit c.args.d (lent) c.requires.3, c.requires.1),
      record { limit = c.args.limit; sets = c.args.sets.now; right = c.requires.3 },
      agreed-rise c.args.limit c.args.d (lent) c.requires.3,
    )

pub found_seat-requires : goal.found_seat-requires
found_seat-requires c x e =
    let lent : Stores = stores c.args.sets.now c.args.entries.now c.args.order.now in
    (by-there c.args.limit c.args.d (lent) c.args.h c.requires.1 c.requires.3 x (sym c.by_birth-found.ensures ∙ e)).1

pub returns : goal.returns
returns c =
    let lent : Stores = stores c.args.sets.now c.args.entries.now c.args.order.now in
    let first : ℕ = barred_by true c.args.value 0 true in
    let goes : Seating = seated_by c.args.limit c.args.d (lent) c.args.h in
    c.found_seat.ensures c.args.sets.now c.args.order.now
    ∙ sym (by-is c.args.limit c.args.d (lent) c.args.h c.requires.3 c.by_birth-found.result (sym c.by_birth-found.ensures))
    ∙ sym (barred-on (first) (goes) (sym c.in_ok-barred.ensures))
