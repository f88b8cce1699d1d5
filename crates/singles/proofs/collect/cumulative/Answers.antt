-- `singles::collect::cumulative` meets its contract. Assumes nothing.
use mathlib.Core.Path.{refl, sym, ap, ◌∙◌}
use Rattle.refusals.specs.Refusals.{number}
use Rattle.refusals.proofs.Numbers.{number-nonzero, passed-on}
use Rattle.collecting.specs.Collected.{gave}
use mathlib.Core.Bool.{true}
use mathlib.Core.List.{List}
use lib.Ieee.{Float}
use Rattle.directory.specs.View.{stores}
use Rattle.value_map.specs.Calls.{Held, held}
use Rattle.listing.specs.Listed.{Output}
use Rattle.collecting.specs.Lister.{Lister}
use Rattle.collecting.specs.Slots.{walked}
use Rattle.collecting.proofs.Ends.{cumulative-refused, cumulative-done}
use Rattle.collecting.proofs.Decides.{listable, listed-is}
use Rattle.singles.specs.Stores.{single_store}
use Rattle.singles.specs.Points.{output, single_lister}
use Rattle.singles.proofs.Owes.{owed}
use Rattle.singles.proofs.Alike.{listable-sums}
use Rattle.singles.proofs.collect.cumulative.Goals as goal

pub number-requires : goal.number-requires
number-requires c = c.requires

pub returns-in_err-number : goal.returns-in_err-number
returns-in_err-number c =
    let L : Lister (single_store c.args.s.aggregation) = single_lister c.args.s.aggregation in
    let map : Held (List Float) = let a = c.args in held a.d (stores a.sets.now a.entries.now a.order.now) a.values.now in
    let out : Output = output c.args.out_sets.now c.args.out_values.now in
    ap (λ r. gave r (map) (out)) (passed-on c.from_residual.result c.in_err-number.field-0.0 c.from_residual.ensures.1)
    ∙ cumulative-refused (L) tt c.args.s.limit (map) (out) (number c.in_err-number.field-0.0) c.in_err-number.ensures (number-nonzero c.in_err-number.field-0.0)

pub list-end-requires : goal.list-end-requires
list-end-requires c =
    let out : Output = output c.args.out_sets.now c.args.out_values.now in
    let L : Lister (single_store c.args.s.aggregation) = single_lister c.args.s.aggregation in
    let map : Held (List Float) = let a = c.args in held a.d (stores a.sets.now a.entries.now a.order.now) a.values.now in
    let a = c.args in
    let m = walked a.d.used a.sets.now a.entries.now a.order.now a.values.now in
    listable-sums a.s.aggregation true m (out)
    (listable (L) (owed a.s.aggregation) tt true a.s.limit (map) (out) 0 c.in_ok-number.ensures refl)

pub returns : goal.returns
returns c =
    let L : Lister (single_store c.args.s.aggregation) = single_lister c.args.s.aggregation in
    let map : Held (List Float) = let a = c.args in held a.d (stores a.sets.now a.entries.now a.order.now) a.values.now in
    let out : Output = output c.args.out_sets.now c.args.out_values.now in
    let a = c.args in
    cumulative-done (L) tt a.s.limit (map) (out) _ (sym c.in_ok-number.ensures)
    (listed-is (L) (owed a.s.aggregation) tt true a.s.limit (map) (out) _ c.list-end.ensures)
