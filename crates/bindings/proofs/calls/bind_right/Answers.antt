-- `bindings::calls::bind_right` meets its contract. Assumes nothing.
use borrow.Author.Rules.{rules}
use mathlib.Core.Path.{sym, ◌∙◌}
use native.Mathlib.Omega.{arith}
use Rattle.directory.specs.View.{Stores}
use Rattle.directory.specs.declared.Target.TheVariants.{Disagrees, Old, New, Over}
use Rattle.directory.proofs.Located.{old-there, new-there, over-there}
use Rattle.bindings.proofs.Binds.{bound-at}
use Rattle.bindings.proofs.calls.bind_right.Goals as goal

pub bind_held-requires : goal.bind_held-requires
bind_held-requires c =
    let stores : Stores = record { sets = c.args.sets.now; entries = c.args.entries.now; order = c.args.order.now } in
    old-there c.args.limit c.args.d (stores) c.args.row c.in-Old.x (sym c.locate_agreed-t.ensures ∙ c.in-Old.is) c.requires.1

pub bind_new-requires : goal.bind_new-requires
bind_new-requires c =
    let stores : Stores = record { sets = c.args.sets.now; entries = c.args.entries.now; order = c.args.order.now } in
    let n = new-there c.args.limit c.args.d (stores) c.args.row c.in-New.r (sym c.locate_agreed-t.ensures ∙ c.in-New.is) in
    (omega (arith, n.1, c.requires.0), omega (arith, n.1, c.requires.1), omega (arith, n.1, c.requires.2), n.0, omega (arith, n.1, c.requires.4), omega (arith, n.2, c.requires.4))

pub bind_new-requires-in-Over : goal.bind_new-requires-in-Over
bind_new-requires-in-Over c =
    let stores : Stores = record { sets = c.args.sets.now; entries = c.args.entries.now; order = c.args.order.now } in
    let n = over-there c.args.limit c.args.d (stores) c.args.row c.in-Over.r (sym c.locate_agreed-t.ensures ∙ c.in-Over.is) in
    (omega (arith, n.1, c.requires.0), omega (arith, n.1, c.requires.1), omega (arith, n.1, c.requires.2), n.0, omega (arith, n.1, c.requires.4), search rules)

pub returns-in-Disagrees : goal.returns-in-Disagrees
returns-in-Disagrees c =
    let stores : Stores = record { sets = c.args.sets.now; entries = c.args.entries.now; order = c.args.order.now } in
    sym (bound-at c.args.limit c.args.d (stores) c.args.row Disagrees (sym c.locate_agreed-t.ensures ∙ c.in-Disagrees.is))

pub returns-in-Old : goal.returns-in-Old
returns-in-Old c =
    let stores : Stores = record { sets = c.args.sets.now; entries = c.args.entries.now; order = c.args.order.now } in
    c.bind_held.ensures c.args.sets.now c.args.order.now
    ∙ sym (bound-at c.args.limit c.args.d (stores) c.args.row (Old c.in-Old.x) (sym c.locate_agreed-t.ensures ∙ c.in-Old.is))

pub returns-in-New : goal.returns-in-New
returns-in-New c =
    let stores : Stores = record { sets = c.args.sets.now; entries = c.args.entries.now; order = c.args.order.now } in
    c.bind_new.ensures
    ∙ sym (bound-at c.args.limit c.args.d (stores) c.args.row (New c.in-New.r) (sym c.locate_agreed-t.ensures ∙ c.in-New.is))

pub returns-in-Over : goal.returns-in-Over
returns-in-Over c =
    let stores : Stores = record { sets = c.args.sets.now; entries = c.args.entries.now; order = c.args.order.now } in
    c.bind_new-in-Over.ensures
    ∙ sym (bound-at c.args.limit c.args.d (stores) c.args.row (Over c.in-Over.r) (sym c.locate_agreed-t.ensures ∙ c.in-Over.is))
