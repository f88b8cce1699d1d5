-- `directory::find::by_handle` meets its contract. Assumes nothing.
use Rattle.std.proofs.Common.{sym}
use Rattle.directory.specs.View.{Stores}
use Rattle.directory.proofs.Agreed.{place-slot}
use Rattle.directory.proofs.Handles.{scan-own}
use Rattle.directory.proofs.Laws.{places-right}
use Rattle.directory.proofs.find.by_handle.Goals as goal

pub returns-in-Some : goal.returns-in-Some
returns-in-Some c =
    let stores : Stores = record { sets = c.requires.2.sets; entries = c.args.entries.now; order = c.args.order.now } in
    let e = c.own_slot.ensures c.in-Some.x c.in-Some.is in
    sym (scan-own c.requires.2.limit c.args.d (stores) c.requires.2.right c.args.h c.in-Some.x e.0 e.1)

pub by_places-requires : goal.by_places-requires
by_places-requires c =
    let stores : Stores = record { sets = c.requires.2.sets; entries = c.args.entries.now; order = c.args.order.now } in
    (c.requires.0, c.requires.1, place-slot c.args.d.used c.requires.2.sets c.args.order.now (places-right c.requires.2.limit c.args.d (stores) c.requires.2.right))

pub returns : goal.returns
returns c = c.by_places.ensures
