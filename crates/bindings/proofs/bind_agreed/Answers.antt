-- `bindings::bind_agreed` meets its contract. Assumes nothing.
use Prim.Native.Nat.{ℕ}
use mathlib.Core.Path.{◌≡◌, ap, sym, ◌∙◌}
use mathlib.Core.Bool.{true}
use mathlib.Core.List.{List}
use mathlib.Core.Option.{Option}
use borrow.Author.Tests.{leb-true}
use native.Mathlib.Omega.{arith}
use lib.Dec.{leb}
use lib.ListN.{length}
use Rattle.sets.specs.Sorted.{filter_of, most_attributes}
use Rattle.directory.specs.View.{Stores}
use Rattle.directory.proofs.Refusals.{suffices, within}
use Rattle.bindings.specs.Calls.{bound_in}
use Rattle.bindings.proofs.Refusals.{bound_5, bound-on}
use Rattle.bindings.proofs.bind_agreed.Goals as goal

pub returns-then-not-few : goal.returns-then-not-few
returns-then-not-few c =
    let filter : Option (List ℕ) = filter_of c.args.present c.args.filter.now in
    let stores : Stores = record { sets = c.args.sets.now; entries = c.args.entries.now; order = c.args.order.now } in
    sym (bound_5 c.args.limit (filter) c.args.d (stores) c.args.attrs.now c.requires.lent (sym c.few.ensures ∙ c.if-not-few.true))

pub sort_into-requires : goal.sort_into-requires
sort_into-requires c =
    let short : leb (length c.args.attrs.now) most_attributes ≡ true = sym c.few.ensures ∙ c.if-not-few.false in
    leb-true _ _ (short)

pub bind_right-requires : goal.bind_right-requires
bind_right-requires c =
    let stores : Stores = record { sets = c.args.sets.now; entries = c.args.entries.now; order = c.args.order.now } in
    let filter : Option (List ℕ) = filter_of c.args.present c.args.filter.now in
    let f = suffices c.args.limit (stores) c.requires.lent in
    (f.sets, f.entries, f.order, c.sort_into.ensures.1, omega (arith, within c.args.limit (filter) c.requires.accepted), c.requires.agrees)

pub returns : goal.returns
returns c =
    let stores : Stores = record { sets = c.args.sets.now; entries = c.args.entries.now; order = c.args.order.now } in
    let filter : Option (List ℕ) = filter_of c.args.present c.args.filter.now in
    let short : leb (length c.args.attrs.now) most_attributes ≡ true = sym c.few.ensures ∙ c.if-not-few.false in
    c.bind_right.ensures
    ∙ ap (λ (l : List ℕ). bound_in c.args.limit c.args.d (stores) l) c.sort_into.ensures.0
    ∙ sym (bound-on c.args.limit (filter) c.args.d (stores) c.args.attrs.now c.requires.lent (short) c.requires.accepted)
