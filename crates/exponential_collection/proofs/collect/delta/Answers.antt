-- `exponential_collection::collect::delta` meets its contract. Assumes nothing.
use mathlib.Core.Path.{refl, sym}
use mathlib.Core.Bool.{false}
use Rattle.refusals.specs.Refusals.{number}
use Rattle.refusals.proofs.Numbers.{number-nonzero}
use Rattle.directory.specs.View.{stores}
use Rattle.exponential_slots.specs.Cells.{Cells, cells}
use Rattle.value_map.specs.Calls.{Held, held}
use Rattle.value_map.proofs.ExponentialOwes.{owed}
use Rattle.listing.specs.Listed.{Output, output}
use Rattle.collecting.proofs.Ends.{delta-refused, delta-done}
use Rattle.collecting.proofs.Decides.{listable, sweeps, listed-is}
use Rattle.exponential_collection.specs.Points.{exponential_lister}
use Rattle.exponential_collection.proofs.collect.delta.Goals as goal

pub number-requires : goal.number-requires
number-requires c = c.requires

pub returns-in-Err : goal.returns-in-Err
returns-in-Err c =
    let map : Held Cells = let a = c.args in held a.d (stores a.sets.now a.entries.now a.order.now) (cells a.figures.now a.extremes.now a.pos.now a.neg.now) in
    let out : Output = let a = c.args in output a.out_sets.now a.out_words.now a.out_pos.now a.out_neg.now in
    let a = c.args in
    delta-refused (exponential_lister a.s.size a.s.top) (a.s.extremes, a.s.sums) a.s.limit (map) (out) (number c.in-Err.e) c.in-Err.ensures (number-nonzero c.in-Err.e)

pub list-at-requires : goal.list-at-requires
list-at-requires c =
    let map : Held Cells = let a = c.args in held a.d (stores a.sets.now a.entries.now a.order.now) (cells a.figures.now a.extremes.now a.pos.now a.neg.now) in
    let out : Output = let a = c.args in output a.out_sets.now a.out_words.now a.out_pos.now a.out_neg.now in
    let a = c.args in
    listable (exponential_lister a.s.size a.s.top) (owed a.s.size a.s.top) (a.s.extremes, a.s.sums) false a.s.limit (map) (out) 0 c.in-Ok.ensures refl

pub sweep-dir-requires : goal.sweep-dir-requires
sweep-dir-requires c =
    let map : Held Cells = let a = c.args in held a.d (stores a.sets.now a.entries.now a.order.now) (cells a.figures.now a.extremes.now a.pos.now a.neg.now) in
    let out : Output = let a = c.args in output a.out_sets.now a.out_words.now a.out_pos.now a.out_neg.now in
    let a = c.args in
    sweeps (exponential_lister a.s.size a.s.top) (owed a.s.size a.s.top) (a.s.extremes, a.s.sums) false a.s.limit (map) (out) 0 c.in-Ok.ensures refl

pub returns-in-Ok : goal.returns-in-Ok
returns-in-Ok c =
    let map : Held Cells = let a = c.args in held a.d (stores a.sets.now a.entries.now a.order.now) (cells a.figures.now a.extremes.now a.pos.now a.neg.now) in
    let out : Output = let a = c.args in output a.out_sets.now a.out_words.now a.out_pos.now a.out_neg.now in
    let a = c.args in
    delta-done (exponential_lister a.s.size a.s.top) (a.s.extremes, a.s.sums) a.s.limit (map) (out) _ _ (sym c.in-Ok.ensures)
    (listed-is (exponential_lister a.s.size a.s.top) (owed a.s.size a.s.top) (a.s.extremes, a.s.sums) false a.s.limit (map) (out) _ c.list-at.ensures) c.sweep-dir.ensures
