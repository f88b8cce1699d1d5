-- `seats::seat_if` meets its contract. Assumes nothing.
use Prim.Native.Nat.{ℕ}
use mathlib.Core.Path.{◌≡◌, sym, ◌∙◌}
use mathlib.Core.Bool.{true}
use mathlib.Core.List.{List}
use mathlib.Core.Option.{Option}
use lib.ListN.{length}
use Rattle.tally.specs.Sets.{canonical}
use Rattle.sets.specs.Rows.{row_of}
use Rattle.sets.specs.Sorted.{given, filter_of}
use Rattle.directory.specs.View.{Stores, stores}
use Rattle.directory.specs.Calls.{accepts}
use Rattle.seats.specs.Seats.{barred_by, seated, unless_barred, Seating}
use Rattle.seats.specs.Inner.{barred_at, row_unless_barred, Sure}
use Rattle.seats.proofs.Bars.{sure-bar}
use Rattle.numbered.specs.Numbered.{code_by}
use Rattle.seats.proofs.seat_if.Goals as goal

pub seat_agreed-requires : goal.seat_agreed-requires
seat_agreed-requires g c =
    let lent : Stores = stores c.args.sets.now c.args.entries.now c.args.order.now in
    let filter : Option (List ℕ) = filter_of c.args.present c.args.filter.now in
    let sure : let a = c.args in Sure a.cells (code_by g.E.Numbered.number a.unset) a.limit a.d (lent) (accepts a.limit (filter)) = c.requires c.if-known.true in
    let k = sure in (k.sets, k.entries, k.order, k.agrees)

pub returns-then-known : goal.returns-then-known
returns-then-known g c =
    let lent : Stores = stores c.args.sets.now c.args.entries.now c.args.order.now in
    let attrs : List (ℕ × ℕ) = given c.args.attrs.now in
    let filter : Option (List ℕ) = filter_of c.args.present c.args.filter.now in
    let sure : let a = c.args in Sure a.cells (code_by g.E.Numbered.number a.unset) a.limit a.d (lent) (accepts a.limit (filter)) = c.requires c.if-known.true in
    let same : barred_at c.args.cells c.args.value (code_by g.E.Numbered.number c.args.unset) c.args.limit (lent) (length (attrs)) (accepts c.args.limit (filter))
    ≡ barred_by true c.args.value (length (attrs)) true = sure-bar c.args.cells (code_by g.E.Numbered.number c.args.unset) c.args.limit c.args.d (lent) (accepts c.args.limit (filter)) (sure) c.args.value (length (attrs)) in
    let set_row : List ℕ = row_of (canonical (filter) (attrs)) in
    let goes : Seating = seated c.args.limit c.args.d (lent) (set_row) in
    record { value = c.seat_agreed.ensures.value ∙ sym (λ j. unless_barred (same j) (goes)); row_after = c.seat_agreed.ensures.row_after ∙ sym (λ j. row_unless_barred (same j) (set_row) c.args.row.now) }
