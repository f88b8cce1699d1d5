-- `collecting::barred` meets its contract. Assumes nothing.
use mathlib.Core.Path.{◌≡◌, sym, ◌∙◌}
use mathlib.Core.Bool.{true}
use Rattle.directory.specs.View.{Stores, stores}
use Rattle.directory.specs.Calls.{stores_suffice}
use Rattle.directory.proofs.Refusals.{suffices}
use Rattle.collecting.proofs.Numbers.{refused, accepted, bar-stores, bar-cells, bar-unset, bar-limit, bar_directory, bar-none}
use Rattle.numbered.specs.Numbered.{code_by}
use Rattle.collecting.proofs.barred.Goals as goal

pub returns-then-known : goal.returns-then-known
returns-then-known g c = sym (c.requires c.if-known.true)

pub returns-then-not-stores_suffice : goal.returns-then-not-stores_suffice
returns-then-not-stores_suffice g c =
    let lent : Stores = stores c.args.sets.now c.args.entries.now c.args.order.now in
    sym (bar-stores c.args.cells (code_by g.E.Numbered.number c.args.unset) c.args.limit c.args.d (lent) (sym c.stores_suffice.ensures ∙ c.if-not-stores_suffice.true))

pub returns-then-not-cells : goal.returns-then-not-cells
returns-then-not-cells g c =
    let lent : Stores = stores c.args.sets.now c.args.entries.now c.args.order.now in
    let room : stores_suffice c.args.limit (lent) ≡ true = sym c.stores_suffice.ensures ∙ c.if-not-stores_suffice.false in
    sym (bar-cells c.args.cells (code_by g.E.Numbered.number c.args.unset) c.args.limit c.args.d (lent) (room) c.if-not-cells.true)

pub returns-then-is_err : goal.returns-then-is_err
returns-then-is_err g c =
    let lent : Stores = stores c.args.sets.now c.args.entries.now c.args.order.now in
    let room : stores_suffice c.args.limit (lent) ≡ true = sym c.stores_suffice.ensures ∙ c.if-not-stores_suffice.false in
    let cells : c.args.cells ≡ true = c.if-not-cells.false in
    sym (bar-unset c.args.cells (code_by g.E.Numbered.number c.args.unset) c.args.limit c.args.d (lent) (room) (cells) (refused g.E.Numbered.number g.met.E.Reason.refuses _ (sym c.is_err.ensures.value ∙ c.if-is_err.true)))

pub returns-then-limit-gt-MOST_SETS : goal.returns-then-limit-gt-MOST_SETS
returns-then-limit-gt-MOST_SETS g c =
    let lent : Stores = stores c.args.sets.now c.args.entries.now c.args.order.now in
    let room : stores_suffice c.args.limit (lent) ≡ true = sym c.stores_suffice.ensures ∙ c.if-not-stores_suffice.false in
    let cells : c.args.cells ≡ true = c.if-not-cells.false in
    sym (bar-limit c.args.cells (code_by g.E.Numbered.number c.args.unset) c.args.limit c.args.d (lent) (room) (cells) (accepted g.E.Numbered.number _ (sym c.is_err.ensures.value ∙ c.if-is_err.false)) c.if-limit-gt-MOST_SETS.true)

pub agrees-requires : goal.agrees-requires
agrees-requires g c =
    let lent : Stores = stores c.args.sets.now c.args.entries.now c.args.order.now in
    let room : stores_suffice c.args.limit (lent) ≡ true = sym c.stores_suffice.ensures ∙ c.if-not-stores_suffice.false in
    let r = suffices c.args.limit (lent) (room) in
    (r.sets, r.entries, r.order)

pub returns-then-not-agrees : goal.returns-then-not-agrees
returns-then-not-agrees g c =
    let lent : Stores = stores c.args.sets.now c.args.entries.now c.args.order.now in
    let room : stores_suffice c.args.limit (lent) ≡ true = sym c.stores_suffice.ensures ∙ c.if-not-stores_suffice.false in
    let cells : c.args.cells ≡ true = c.if-not-cells.false in
    sym (bar_directory c.args.cells (code_by g.E.Numbered.number c.args.unset) c.args.limit c.args.d (lent) (room) (cells) (accepted g.E.Numbered.number _ (sym c.is_err.ensures.value ∙ c.if-is_err.false)) c.if-limit-gt-MOST_SETS.false (sym c.agrees.ensures ∙ c.if-not-agrees.true))

pub returns : goal.returns
returns g c =
    let lent : Stores = stores c.args.sets.now c.args.entries.now c.args.order.now in
    let room : stores_suffice c.args.limit (lent) ≡ true = sym c.stores_suffice.ensures ∙ c.if-not-stores_suffice.false in
    let cells : c.args.cells ≡ true = c.if-not-cells.false in
    sym (bar-none c.args.cells (code_by g.E.Numbered.number c.args.unset) c.args.limit c.args.d (lent) (room) (cells) (accepted g.E.Numbered.number _ (sym c.is_err.ensures.value ∙ c.if-is_err.false)) c.if-limit-gt-MOST_SETS.false (sym c.agrees.ensures ∙ c.if-not-agrees.false))
