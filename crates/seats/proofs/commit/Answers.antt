-- `seats::commit` meets its contract. Assumes nothing.
use borrow.Author.Rules.{rules}
use Prim.Native.Nat.{◌<◌}
use mathlib.Core.Path.{ap, sym, subst, ◌∙◌}
use lib.ListN.{length}
use Rattle.directory.specs.View.{Stores}
use Rattle.directory.specs.Calls.{over_row}
use Rattle.seats.specs.Seats.{committed}
use Rattle.seats.specs.Inner.{Roomy, Fits}
use Rattle.seats.proofs.Commits.{made-there, made-marked, commit-none, commit-old, commit-new, commit-over}
use Rattle.seats.proofs.commit.Goals as goal

pub mark-requires : goal.mark-requires
mark-requires c =
    let stores : Stores = record { sets = c.args.sets.now; entries = c.args.entries.now; order = c.args.order.now } in
    let fits-old : c.in-Old.x < length c.args.entries.now = subst (Fits c.args.d (stores)) c.in-Old.is c.requires in
    fits-old

pub admit-e-requires : goal.admit-e-requires
admit-e-requires c =
    let stores : Stores = record { sets = c.args.sets.now; entries = c.args.entries.now; order = c.args.order.now } in
    let fits-new : Roomy c.args.d (stores) c.in-New.r = subst (Fits c.args.d (stores)) c.in-New.is c.requires in
    let f = fits-new in
    (f.sets, f.entries, f.order, f.rank, f.slot, f.last, f.count)

pub mark-requires-in-New : goal.mark-requires-in-New
mark-requires-in-New c =
    let stores : Stores = record { sets = c.args.sets.now; entries = c.args.entries.now; order = c.args.order.now } in
    let fits-new : Roomy c.args.d (stores) c.in-New.r = subst (Fits c.args.d (stores)) c.in-New.is c.requires in
    made-there c.args.d (stores) _ c.args.row.now c.in-New.r 1 c.admit-e.ensures (fits-new)

pub admit-e-requires-in-Over : goal.admit-e-requires-in-Over
admit-e-requires-in-Over c =
    let stores : Stores = record { sets = c.args.sets.now; entries = c.args.entries.now; order = c.args.order.now } in
    let fits-over : Roomy c.args.d (stores) c.in-Over.r = subst (Fits c.args.d (stores)) c.in-Over.is c.requires in
    let f = fits-over in
    (f.sets, f.entries, f.order, f.rank, f.slot, f.last, search rules)

pub mark-requires-in-Over : goal.mark-requires-in-Over
mark-requires-in-Over c =
    let stores : Stores = record { sets = c.args.sets.now; entries = c.args.entries.now; order = c.args.order.now } in
    let fits-over : Roomy c.args.d (stores) c.in-Over.r = subst (Fits c.args.d (stores)) c.in-Over.is c.requires in
    made-there c.args.d (stores) _ over_row c.in-Over.r 0 c.admit-e-in-Over.ensures (fits-over)

-- the target that was told, in the place of the one that was given
pub returns-in-Disagrees : goal.returns-in-Disagrees
returns-in-Disagrees c =
    let stores : Stores = record { sets = c.args.sets.now; entries = c.args.entries.now; order = c.args.order.now } in
    sym (ap (committed c.args.d (stores) c.args.row.now) c.in-Disagrees.is ∙ commit-none c.args.d (stores) c.args.row.now)

pub returns-in-Old : goal.returns-in-Old
returns-in-Old c =
    let stores : Stores = record { sets = c.args.sets.now; entries = c.args.entries.now; order = c.args.order.now } in
    ap (λ l. record { dir = c.args.d; stores = record { sets = c.args.sets.now; entries = l; order = c.args.order.now } }) c.mark.ensures
    ∙ sym (ap (committed c.args.d (stores) c.args.row.now) c.in-Old.is ∙ commit-old c.args.d (stores) c.args.row.now c.in-Old.x)

pub returns-in-New : goal.returns-in-New
returns-in-New c =
    let stores : Stores = record { sets = c.args.sets.now; entries = c.args.entries.now; order = c.args.order.now } in
    made-marked c.args.d (stores) _ c.args.row.now c.in-New.r 1 c.admit-e.ensures _ c.mark-in-New.ensures
    ∙ sym (ap (committed c.args.d (stores) c.args.row.now) c.in-New.is ∙ commit-new c.args.d (stores) c.args.row.now c.in-New.r)

pub returns-in-Over : goal.returns-in-Over
returns-in-Over c =
    let stores : Stores = record { sets = c.args.sets.now; entries = c.args.entries.now; order = c.args.order.now } in
    made-marked c.args.d (stores) _ over_row c.in-Over.r 0 c.admit-e-in-Over.ensures _ c.mark-in-Over.ensures
    ∙ sym (ap (committed c.args.d (stores) c.args.row.now) c.in-Over.is ∙ commit-over c.args.d (stores) c.args.row.now c.in-Over.r)
