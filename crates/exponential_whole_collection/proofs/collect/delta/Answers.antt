-- `exponential_whole_collection::collect::delta` meets its contract. Assumes nothing.
use mathlib.Core.Path.{refl, sym}
use mathlib.Core.Bool.{false}
use Rattle.refusals.specs.Refusals.{number}
use Rattle.refusals.proofs.Numbers.{number-nonzero}
use Rattle.directory.specs.View.{stores}
use Rattle.exponential_whole_slots.specs.Cells.{Cells, cells}
use Rattle.value_map.specs.Calls.{Held, held}
use Rattle.value_map.proofs.Owed.{Owed}
use Rattle.whole_map.specs.Exponential.{exponential_wholes}
use Rattle.whole_map.proofs.ExponentialOwes.{owed}
use Rattle.listing.specs.Listed.{Output, output}
use Rattle.collecting.specs.Lister.{Lister}
use Rattle.collecting.proofs.Ends.{delta-refused, delta-done}
use Rattle.collecting.proofs.Decides.{listable, sweeps, listed-is}
use Rattle.exponential_whole_collection.specs.Points.{exponential_whole_lister}
use Rattle.exponential_whole_collection.proofs.collect.delta.Goals as goal

pub number-requires : goal.number-requires
number-requires c = c.requires

pub returns-in-Err : goal.returns-in-Err
returns-in-Err c =
    let L : Lister (exponential_wholes c.args.s.size c.args.s.top c.args.s.sums) = exponential_whole_lister c.args.s.size c.args.s.top c.args.s.sums in
    let map : Held Cells = let a = c.args in held a.d (stores a.sets.now a.entries.now a.order.now) (cells a.figures.now a.extremes.now a.pos.now a.neg.now) in
    let out : Output = let a = c.args in output a.out_sets.now a.out_words.now a.out_pos.now a.out_neg.now in
    let a = c.args in
    delta-refused (L) a.s.extremes a.s.limit (map) (out) (number c.in-Err.e) c.in-Err.ensures (number-nonzero c.in-Err.e)

pub list-at-requires : goal.list-at-requires
list-at-requires c =
    let L : Lister (exponential_wholes c.args.s.size c.args.s.top c.args.s.sums) = exponential_whole_lister c.args.s.size c.args.s.top c.args.s.sums in
    let W : Owed (exponential_wholes c.args.s.size c.args.s.top c.args.s.sums) = owed c.args.s.size c.args.s.top c.args.s.sums in
    let map : Held Cells = let a = c.args in held a.d (stores a.sets.now a.entries.now a.order.now) (cells a.figures.now a.extremes.now a.pos.now a.neg.now) in
    let out : Output = let a = c.args in output a.out_sets.now a.out_words.now a.out_pos.now a.out_neg.now in
    let a = c.args in
    listable (L) (W) a.s.extremes false a.s.limit (map) (out) 0 c.in-Ok.ensures refl

pub sweep-dir-requires : goal.sweep-dir-requires
sweep-dir-requires c =
    let L : Lister (exponential_wholes c.args.s.size c.args.s.top c.args.s.sums) = exponential_whole_lister c.args.s.size c.args.s.top c.args.s.sums in
    let W : Owed (exponential_wholes c.args.s.size c.args.s.top c.args.s.sums) = owed c.args.s.size c.args.s.top c.args.s.sums in
    let map : Held Cells = let a = c.args in held a.d (stores a.sets.now a.entries.now a.order.now) (cells a.figures.now a.extremes.now a.pos.now a.neg.now) in
    let out : Output = let a = c.args in output a.out_sets.now a.out_words.now a.out_pos.now a.out_neg.now in
    let a = c.args in
    sweeps (L) (W) a.s.extremes false a.s.limit (map) (out) 0 c.in-Ok.ensures refl

pub returns-in-Ok : goal.returns-in-Ok
returns-in-Ok c =
    let L : Lister (exponential_wholes c.args.s.size c.args.s.top c.args.s.sums) = exponential_whole_lister c.args.s.size c.args.s.top c.args.s.sums in
    let map : Held Cells = let a = c.args in held a.d (stores a.sets.now a.entries.now a.order.now) (cells a.figures.now a.extremes.now a.pos.now a.neg.now) in
    let out : Output = let a = c.args in output a.out_sets.now a.out_words.now a.out_pos.now a.out_neg.now in
    let W : Owed (exponential_wholes c.args.s.size c.args.s.top c.args.s.sums) = owed c.args.s.size c.args.s.top c.args.s.sums in
    let a = c.args in
    delta-done (L) a.s.extremes a.s.limit (map) (out) _ _ (sym c.in-Ok.ensures)
    (listed-is (L) (W) a.s.extremes false a.s.limit (map) (out) _ c.list-at.ensures) c.sweep-dir.ensures
