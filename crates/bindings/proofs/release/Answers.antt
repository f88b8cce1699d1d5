-- `bindings::release` meets its contract. Assumes nothing.
use mathlib.Core.Path.{◌≡◌, sym, ◌∙◌}
use mathlib.Core.Bool.{true}
use Rattle.directory.specs.Calls.{stores_suffice}
use Rattle.directory.specs.View.{Stores}
use Rattle.directory.proofs.Refusals.{suffices}
use Rattle.bindings.proofs.Refusals.{released_12, released_8, released-on}
use Rattle.bindings.proofs.release.Goals as goal

pub returns-then-not-stores_suffice : goal.returns-then-not-stores_suffice
returns-then-not-stores_suffice c =
    let stores : Stores = record { sets = c.args.sets.now; entries = c.args.entries.now; order = c.args.order.now } in
    sym (released_12 c.args.limit c.args.d (stores) c.args.h (sym c.stores_suffice.ensures ∙ c.if-not-stores_suffice.true))

pub returns-then-limit-gt-MOST_SETS : goal.returns-then-limit-gt-MOST_SETS
returns-then-limit-gt-MOST_SETS c =
    let stores : Stores = record { sets = c.args.sets.now; entries = c.args.entries.now; order = c.args.order.now } in
    let lent : stores_suffice c.args.limit (stores) ≡ true = sym c.stores_suffice.ensures ∙ c.if-not-stores_suffice.false in
    sym (released_8 c.args.limit c.args.d (stores) c.args.h (lent) c.if-limit-gt-MOST_SETS.true)

pub release_in-requires : goal.release_in-requires
release_in-requires c =
    let stores : Stores = record { sets = c.args.sets.now; entries = c.args.entries.now; order = c.args.order.now } in
    let lent : stores_suffice c.args.limit (stores) ≡ true = sym c.stores_suffice.ensures ∙ c.if-not-stores_suffice.false in
    let f = suffices c.args.limit (stores) (lent) in
    (f.sets, f.entries, f.order)

pub returns : goal.returns
returns c =
    let stores : Stores = record { sets = c.args.sets.now; entries = c.args.entries.now; order = c.args.order.now } in
    let lent : stores_suffice c.args.limit (stores) ≡ true = sym c.stores_suffice.ensures ∙ c.if-not-stores_suffice.false in
    c.release_in.ensures ∙ sym (released-on c.args.limit c.args.d (stores) c.args.h (lent) c.if-limit-gt-MOST_SETS.false)
