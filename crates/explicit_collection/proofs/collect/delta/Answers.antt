-- `explicit_collection::collect::delta` meets its contract. Assumes nothing.
use mathlib.Core.Path.{refl, sym}
use mathlib.Core.Bool.{false}
use Rattle.refusals.specs.Refusals.{number}
use Rattle.refusals.proofs.Numbers.{number-nonzero}
use Rattle.directory.specs.View.{stores}
use Rattle.explicit_slots.specs.Cells.{Cells, cells}
use Rattle.value_map.specs.Calls.{Held, held}
use Rattle.value_map.proofs.ExplicitOwes.{owed}
use Rattle.listing.specs.Listed.{Output, output}
use Rattle.collecting.proofs.Ends.{delta-refused, delta-done}
use Rattle.collecting.proofs.Decides.{listable, sweeps, listed-is}
use Rattle.explicit_collection.specs.Points.{explicit_lister}
use Rattle.explicit_collection.proofs.collect.delta.Goals as goal

pub number-requires : goal.number-requires
number-requires c = c.requires

pub returns-in-Err : goal.returns-in-Err
returns-in-Err c =
    let map : Held Cells = let a = c.args in held a.d (stores a.sets.now a.entries.now a.order.now) (cells a.totals.now a.extremes.now a.counts.now) in
    let out : Output = let a = c.args in output a.out_sets.now a.out_words.now a.out_pos.now a.out_neg.now in
    let a = c.args in
    delta-refused (explicit_lister a.bounds.now) (a.s.extremes, a.s.sums) a.s.limit (map) (out) (number c.in-Err.e) c.in-Err.ensures (number-nonzero c.in-Err.e)

pub list-end-requires : goal.list-end-requires
list-end-requires c =
    let map : Held Cells = let a = c.args in held a.d (stores a.sets.now a.entries.now a.order.now) (cells a.totals.now a.extremes.now a.counts.now) in
    let out : Output = let a = c.args in output a.out_sets.now a.out_words.now a.out_pos.now a.out_neg.now in
    let a = c.args in
    listable (explicit_lister a.bounds.now) (owed a.bounds.now) (a.s.extremes, a.s.sums) false a.s.limit (map) (out) 0 c.in-Ok.ensures refl

pub sweep-dir-requires : goal.sweep-dir-requires
sweep-dir-requires c =
    let map : Held Cells = let a = c.args in held a.d (stores a.sets.now a.entries.now a.order.now) (cells a.totals.now a.extremes.now a.counts.now) in
    let out : Output = let a = c.args in output a.out_sets.now a.out_words.now a.out_pos.now a.out_neg.now in
    let a = c.args in
    sweeps (explicit_lister a.bounds.now) (owed a.bounds.now) (a.s.extremes, a.s.sums) false a.s.limit (map) (out) 0 c.in-Ok.ensures refl

pub returns-in-Ok : goal.returns-in-Ok
returns-in-Ok c =
    let map : Held Cells = let a = c.args in held a.d (stores a.sets.now a.entries.now a.order.now) (cells a.totals.now a.extremes.now a.counts.now) in
    let out : Output = let a = c.args in output a.out_sets.now a.out_words.now a.out_pos.now a.out_neg.now in
    let a = c.args in
    delta-done (explicit_lister a.bounds.now) (a.s.extremes, a.s.sums) a.s.limit (map) (out) _ _ (sym c.in-Ok.ensures)
    (listed-is (explicit_lister a.bounds.now) (owed a.bounds.now) (a.s.extremes, a.s.sums) false a.s.limit (map) (out) _ c.list-end.ensures) c.sweep-dir.ensures
