-- `bindings::start` meets its contract. Assumes nothing.
use Prim.Native.Nat.{ℕ}
use mathlib.Core.Path.{◌≡◌, sym, ◌∙◌}
use mathlib.Core.Bool.{true}
use Rattle.sets.specs.Sorted.{filter_of}
use Rattle.directory.specs.Calls.{accepts, stores_suffice}
use Rattle.directory.specs.View.{Stores}
use Rattle.bindings.proofs.Refusals.{start_4, start_12, start_0}
use mathlib.Core.List.{List}
use mathlib.Core.Option.{Option}
use Rattle.bindings.proofs.start.Goals as goal

pub returns-then-not-accepted : goal.returns-then-not-accepted
returns-then-not-accepted c =
    let filter : Option (List ℕ) = filter_of c.args.present c.args.filter.now in
    let stores : Stores = record { sets = c.args.sets.now; entries = c.args.entries.now; order = c.args.order.now } in
    sym (start_4 c.args.limit (filter) (stores) (sym c.accepted.ensures ∙ c.if-not-accepted.true))

pub returns-then-not-stores_suffice : goal.returns-then-not-stores_suffice
returns-then-not-stores_suffice c =
    let filter : Option (List ℕ) = filter_of c.args.present c.args.filter.now in
    let stores : Stores = record { sets = c.args.sets.now; entries = c.args.entries.now; order = c.args.order.now } in
    let accept : accepts c.args.limit (filter) ≡ true = sym c.accepted.ensures ∙ c.if-not-accepted.false in
    sym (start_12 c.args.limit (filter) (stores) (accept) (sym c.stores_suffice.ensures ∙ c.if-not-stores_suffice.true))

pub returns : goal.returns
returns c =
    let filter : Option (List ℕ) = filter_of c.args.present c.args.filter.now in
    let stores : Stores = record { sets = c.args.sets.now; entries = c.args.entries.now; order = c.args.order.now } in
    let accept : accepts c.args.limit (filter) ≡ true = sym c.accepted.ensures ∙ c.if-not-accepted.false in
    let lent : stores_suffice c.args.limit (stores) ≡ true = sym c.stores_suffice.ensures ∙ c.if-not-stores_suffice.false in
    sym (start_0 c.args.limit (filter) (stores) (accept) (lent))
