-- `bindings::bind` meets its contract. Assumes nothing.
use Prim.Native.Nat.{ℕ}
use mathlib.Core.Path.{◌≡◌, ap, sym, ◌∙◌}
use mathlib.Core.Bool.{true}
use borrow.Author.Tests.{leb-true}
use lib.Dec.{leb}
use lib.ListN.{length}
use native.Mathlib.Omega.{arith}
use mathlib.Core.List.{List}
use mathlib.Core.Option.{Option}
use Rattle.sets.specs.Sorted.{filter_of, most_attributes}
use Rattle.directory.specs.Calls.{accepts, stores_suffice}
use Rattle.directory.specs.View.{Stores}
use Rattle.directory.proofs.Refusals.{suffices, within}
use Rattle.bindings.specs.Calls.{bound_in}
use Rattle.bindings.proofs.Refusals.{bound_12, bound_5, bound_8, bound-on}
use Rattle.bindings.proofs.bind.Goals as goal

pub returns-then-not-stores_suffice : goal.returns-then-not-stores_suffice
returns-then-not-stores_suffice c =
    let filter : Option (List ℕ) = filter_of c.args.present c.args.filter.now in
    let stores : Stores = record { sets = c.args.sets.now; entries = c.args.entries.now; order = c.args.order.now } in
    sym (bound_12 c.args.limit (filter) c.args.d (stores) c.args.attrs.now (sym c.stores_suffice.ensures ∙ c.if-not-stores_suffice.true))

pub returns-then-not-few : goal.returns-then-not-few
returns-then-not-few c =
    let filter : Option (List ℕ) = filter_of c.args.present c.args.filter.now in
    let stores : Stores = record { sets = c.args.sets.now; entries = c.args.entries.now; order = c.args.order.now } in
    let lent : stores_suffice c.args.limit (stores) ≡ true = sym c.stores_suffice.ensures ∙ c.if-not-stores_suffice.false in
    sym (bound_5 c.args.limit (filter) c.args.d (stores) c.args.attrs.now (lent) (sym c.few.ensures ∙ c.if-not-few.true))

pub returns-then-not-accepted : goal.returns-then-not-accepted
returns-then-not-accepted c =
    let filter : Option (List ℕ) = filter_of c.args.present c.args.filter.now in
    let stores : Stores = record { sets = c.args.sets.now; entries = c.args.entries.now; order = c.args.order.now } in
    let lent : stores_suffice c.args.limit (stores) ≡ true = sym c.stores_suffice.ensures ∙ c.if-not-stores_suffice.false in
    let short : leb (length c.args.attrs.now) most_attributes ≡ true = sym c.few.ensures ∙ c.if-not-few.false in
    sym (bound_8 c.args.limit (filter) c.args.d (stores) c.args.attrs.now (lent) (short) (sym c.accepted.ensures ∙ c.if-not-accepted.true))

pub sort_into-requires : goal.sort_into-requires
sort_into-requires c =
    let short : leb (length c.args.attrs.now) most_attributes ≡ true = sym c.few.ensures ∙ c.if-not-few.false in
    leb-true _ _ (short)

pub bind_in-requires : goal.bind_in-requires
bind_in-requires c =
    let stores : Stores = record { sets = c.args.sets.now; entries = c.args.entries.now; order = c.args.order.now } in
    let lent : stores_suffice c.args.limit (stores) ≡ true = sym c.stores_suffice.ensures ∙ c.if-not-stores_suffice.false in
    let filter : Option (List ℕ) = filter_of c.args.present c.args.filter.now in
    let accept : accepts c.args.limit (filter) ≡ true = sym c.accepted.ensures ∙ c.if-not-accepted.false in
    let f = suffices c.args.limit (stores) (lent) in
    (f.sets, f.entries, f.order, c.sort_into.ensures.1, omega (arith, within c.args.limit (filter) (accept)))

pub returns : goal.returns
returns c =
    let stores : Stores = record { sets = c.args.sets.now; entries = c.args.entries.now; order = c.args.order.now } in
    let filter : Option (List ℕ) = filter_of c.args.present c.args.filter.now in
    let lent : stores_suffice c.args.limit (stores) ≡ true = sym c.stores_suffice.ensures ∙ c.if-not-stores_suffice.false in
    let short : leb (length c.args.attrs.now) most_attributes ≡ true = sym c.few.ensures ∙ c.if-not-few.false in
    let accept : accepts c.args.limit (filter) ≡ true = sym c.accepted.ensures ∙ c.if-not-accepted.false in
    c.bind_in.ensures
    ∙ ap (λ (l : List ℕ). bound_in c.args.limit c.args.d (stores) l) c.sort_into.ensures.0
    ∙ sym (bound-on c.args.limit (filter) c.args.d (stores) c.args.attrs.now (lent) (short) (accept))
