-- `seats::seat_by_if` meets its contract. Assumes nothing.
use mathlib.Core.Path.{sym, ◌∙◌}
use lib.Dec.{leb}
use Rattle.directory.specs.View.{Stores, stores}
use Rattle.directory.specs.Calls.{most_sets}
use Rattle.seats.specs.Seats.{seated_by, unless_barred, Seating}
use Rattle.seats.specs.Inner.{Sure}
use Rattle.seats.proofs.Bars.{sure-bar}
use Rattle.numbered.specs.Numbered.{code_by}
use Rattle.seats.proofs.seat_by_if.Goals as goal

pub seat_by_agreed-requires : goal.seat_by_agreed-requires
seat_by_agreed-requires g c =
    let lent : Stores = stores c.args.sets.now c.args.entries.now c.args.order.now in
    let sure : let a = c.args in Sure a.cells (code_by g.E.Numbered.number a.unset) a.limit a.d (lent) (leb a.limit most_sets) = c.requires c.if-known.true in
    let k = sure in (k.sets, k.entries, k.order, k.agrees)

pub returns-then-known : goal.returns-then-known
returns-then-known g c =
    let lent : Stores = stores c.args.sets.now c.args.entries.now c.args.order.now in
    let sure : let a = c.args in Sure a.cells (code_by g.E.Numbered.number a.unset) a.limit a.d (lent) (leb a.limit most_sets) = c.requires c.if-known.true in
    let goes : Seating = seated_by c.args.limit c.args.d (lent) c.args.h in
    let a = c.args in
    c.seat_by_agreed.ensures
    ∙ sym (λ j. unless_barred (sure-bar a.cells (code_by g.E.Numbered.number a.unset) a.limit a.d (lent) (leb a.limit most_sets) (sure) a.value 0 j) (goes))
