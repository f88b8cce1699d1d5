-- `value_map::first::begin` meets its contract. Assumes nothing.
use Prim.Native.Nat.{ℕ}
use mathlib.Core.Path.{◌≡◌, sym, ap, ◌∙◌}
use mathlib.Core.Bool.{true}
use mathlib.Core.List.{List}
use mathlib.Core.Option.{Option}
use Rattle.std.specs.Prelude.{Result}
use Rattle.numbered.specs.Numbered.{code_by}
use Rattle.sets.specs.Sorted.{filter_of}
use Rattle.directory.specs.View.{Stores, stores}
use Rattle.directory.specs.Calls.{accepts}
use Rattle.bindings.specs.Calls.{fresh, refused}
use Rattle.value_map.specs.Calls.{begun}
use Rattle.value_map.proofs.Cases.{begin-unset, begin_4, begin_12, begin-on}
use Rattle.value_map.proofs.first.begin.Goals as goal

pub returns-in-Err : goal.returns-in-Err
returns-in-Err g c =
    let filter : Option (List ℕ) = filter_of c.args.present c.args.filter.now in
    let lent : Stores = stores c.args.sets.now c.args.entries.now c.args.order.now in
    begin-unset (g.E.Numbered.number c.in-Err.no) c.args.cells c.args.limit (filter) (lent) (g.met.E.Reason.refuses c.in-Err.no)
    ∙ ap (λ (r : Result (Unit {0}) g.row.E.Denot). begun (code_by g.E.Numbered.number r) c.args.cells c.args.limit (filter) (lent)) (sym c.in-Err.is)

pub returns-then-not-accepted : goal.returns-then-not-accepted
returns-then-not-accepted g c =
    let filter : Option (List ℕ) = filter_of c.args.present c.args.filter.now in
    let lent : Stores = stores c.args.sets.now c.args.entries.now c.args.order.now in
    ap (λ n. refused n fresh (lent)) c.of.ensures
    ∙ begin_4 (code_by g.E.Numbered.number c.args.unset) c.args.cells c.args.limit (filter) (lent) (ap (code_by g.E.Numbered.number) c.in_default.is) (sym c.accepted.ensures ∙ c.if-not-accepted.true)

pub returns-then-not-cells : goal.returns-then-not-cells
returns-then-not-cells g c =
    let filter : Option (List ℕ) = filter_of c.args.present c.args.filter.now in
    let lent : Stores = stores c.args.sets.now c.args.entries.now c.args.order.now in
    let accept : accepts c.args.limit (filter) ≡ true = sym c.accepted.ensures ∙ c.if-not-accepted.false in
    ap (λ n. refused n fresh (lent)) c.of-then-not-cells.ensures
    ∙ begin_12 (code_by g.E.Numbered.number c.args.unset) c.args.cells c.args.limit (filter) (lent) (ap (code_by g.E.Numbered.number) c.in_default.is) (accept) (c.if-not-cells.true)

pub returns : goal.returns
returns g c =
    let filter : Option (List ℕ) = filter_of c.args.present c.args.filter.now in
    let lent : Stores = stores c.args.sets.now c.args.entries.now c.args.order.now in
    let accept : accepts c.args.limit (filter) ≡ true = sym c.accepted.ensures ∙ c.if-not-accepted.false in
    c.told_as.ensures (stores c.args.sets.now c.start.new.entries c.args.order.now) ∙ c.start.ensures ∙ begin-on (code_by g.E.Numbered.number c.args.unset) c.args.cells c.args.limit (filter) (lent) (ap (code_by g.E.Numbered.number) c.in_default.is) (accept) (c.if-not-cells.false)
