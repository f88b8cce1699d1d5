-- `singles::collect::delta` meets its contract. Assumes nothing.
use mathlib.Core.Path.{refl, sym}
use Rattle.refusals.specs.Refusals.{number}
use Rattle.refusals.proofs.Numbers.{number-nonzero}
use mathlib.Core.Bool.{false}
use mathlib.Core.List.{List}
use lib.Ieee.{Float}
use Rattle.directory.specs.View.{stores}
use Rattle.value_map.specs.Calls.{Held, held}
use Rattle.listing.specs.Listed.{Output}
use Rattle.collecting.specs.Lister.{Lister}
use Rattle.collecting.specs.Slots.{walked}
use Rattle.collecting.proofs.Ends.{delta-refused, delta-done}
use Rattle.collecting.proofs.Decides.{listable, sweeps, listed-is}
use Rattle.singles.specs.Stores.{single_store}
use Rattle.singles.specs.Points.{output, single_lister}
use Rattle.singles.proofs.Owes.{owed}
use Rattle.singles.proofs.Alike.{listable-sums}
use Rattle.singles.proofs.collect.delta.Goals as goal

pub number-requires : goal.number-requires
number-requires c = c.requires

pub returns-in-Err : goal.returns-in-Err
returns-in-Err c =
    let L : Lister (single_store c.args.s.aggregation) = single_lister c.args.s.aggregation in
    let map : Held (List Float) = let a = c.args in held a.d (stores a.sets.now a.entries.now a.order.now) a.values.now in
    let out : Output = output c.args.out_sets.now c.args.out_values.now in
    delta-refused (L) tt c.args.s.limit (map) (out) (number c.in-Err.e) c.in-Err.ensures (number-nonzero c.in-Err.e)

pub list-end-requires : goal.list-end-requires
list-end-requires c =
    let out : Output = output c.args.out_sets.now c.args.out_values.now in
    let L : Lister (single_store c.args.s.aggregation) = single_lister c.args.s.aggregation in
    let map : Held (List Float) = let a = c.args in held a.d (stores a.sets.now a.entries.now a.order.now) a.values.now in
    let a = c.args in
    let m = walked a.d.used a.sets.now a.entries.now a.order.now a.values.now in
    listable-sums a.s.aggregation false m (out)
    (listable (L) (owed a.s.aggregation) tt false a.s.limit (map) (out) 0 c.in-Ok.ensures refl)

pub sweep-dir-requires : goal.sweep-dir-requires
sweep-dir-requires c =
    let L : Lister (single_store c.args.s.aggregation) = single_lister c.args.s.aggregation in
    let map : Held (List Float) = let a = c.args in held a.d (stores a.sets.now a.entries.now a.order.now) a.values.now in
    let out : Output = output c.args.out_sets.now c.args.out_values.now in
    let a = c.args in
    sweeps (L) (owed a.s.aggregation) tt false a.s.limit (map) (out) 0 c.in-Ok.ensures refl

pub returns-in-Ok : goal.returns-in-Ok
returns-in-Ok c =
    let L : Lister (single_store c.args.s.aggregation) = single_lister c.args.s.aggregation in
    let map : Held (List Float) = let a = c.args in held a.d (stores a.sets.now a.entries.now a.order.now) a.values.now in
    let out : Output = output c.args.out_sets.now c.args.out_values.now in
    let a = c.args in
    delta-done (L) tt a.s.limit (map) (out) _ _ (sym c.in-Ok.ensures)
    (listed-is (L) (owed a.s.aggregation) tt false a.s.limit (map) (out) _ c.list-end.ensures) c.sweep-dir.ensures
