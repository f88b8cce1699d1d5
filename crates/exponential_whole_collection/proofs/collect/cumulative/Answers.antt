-- `exponential_whole_collection::collect::cumulative` meets its contract. Assumes nothing.
use mathlib.Core.Path.{refl, sym, ap, ◌∙◌}
use mathlib.Core.Bool.{true}
use Rattle.refusals.specs.Refusals.{number}
use Rattle.refusals.proofs.Numbers.{number-nonzero, passed-on}
use Rattle.directory.specs.View.{stores}
use Rattle.exponential_whole_slots.specs.Cells.{Cells, cells}
use Rattle.value_map.specs.Calls.{Held, held}
use Rattle.value_map.proofs.Owed.{Owed}
use Rattle.whole_map.specs.Exponential.{exponential_wholes}
use Rattle.whole_map.proofs.ExponentialOwes.{owed}
use Rattle.listing.specs.Listed.{Output, output}
use Rattle.collecting.specs.Lister.{Lister}
use Rattle.collecting.specs.Collected.{gave}
use Rattle.collecting.proofs.Ends.{cumulative-refused, cumulative-done}
use Rattle.collecting.proofs.Decides.{listable, listed-is}
use Rattle.exponential_whole_collection.specs.Points.{exponential_whole_lister}
use Rattle.exponential_whole_collection.proofs.collect.cumulative.Goals as goal

pub number-requires : goal.number-requires
number-requires c = c.requires

pub returns-in_err-number : goal.returns-in_err-number
returns-in_err-number c =
    let L : Lister (exponential_wholes c.args.s.size c.args.s.top c.args.s.sums) = exponential_whole_lister c.args.s.size c.args.s.top c.args.s.sums in
    let map : Held Cells = let a = c.args in held a.d (stores a.sets.now a.entries.now a.order.now) (cells a.figures.now a.extremes.now a.pos.now a.neg.now) in
    let out : Output = let a = c.args in output a.out_sets.now a.out_words.now a.out_pos.now a.out_neg.now in
    let a = c.args in
    ap (λ r. gave r (map) (out)) (passed-on c.from_residual.result c.in_err-number.field-0.0 c.from_residual.ensures.1)
    ∙ cumulative-refused (L) a.s.extremes a.s.limit (map) (out) (number c.in_err-number.field-0.0) c.in_err-number.ensures (number-nonzero c.in_err-number.field-0.0)

pub list-at-requires : goal.list-at-requires
list-at-requires c =
    let L : Lister (exponential_wholes c.args.s.size c.args.s.top c.args.s.sums) = exponential_whole_lister c.args.s.size c.args.s.top c.args.s.sums in
    let W : Owed (exponential_wholes c.args.s.size c.args.s.top c.args.s.sums) = owed c.args.s.size c.args.s.top c.args.s.sums in
    let map : Held Cells = let a = c.args in held a.d (stores a.sets.now a.entries.now a.order.now) (cells a.figures.now a.extremes.now a.pos.now a.neg.now) in
    let out : Output = let a = c.args in output a.out_sets.now a.out_words.now a.out_pos.now a.out_neg.now in
    let a = c.args in
    listable (L) (W) a.s.extremes true a.s.limit (map) (out) 0 c.in_ok-number.ensures refl

pub returns : goal.returns
returns c =
    let L : Lister (exponential_wholes c.args.s.size c.args.s.top c.args.s.sums) = exponential_whole_lister c.args.s.size c.args.s.top c.args.s.sums in
    let map : Held Cells = let a = c.args in held a.d (stores a.sets.now a.entries.now a.order.now) (cells a.figures.now a.extremes.now a.pos.now a.neg.now) in
    let out : Output = let a = c.args in output a.out_sets.now a.out_words.now a.out_pos.now a.out_neg.now in
    let W : Owed (exponential_wholes c.args.s.size c.args.s.top c.args.s.sums) = owed c.args.s.size c.args.s.top c.args.s.sums in
    let a = c.args in
    cumulative-done (L) a.s.extremes a.s.limit (map) (out) _ (sym c.in_ok-number.ensures)
    (listed-is (L) (W) a.s.extremes true a.s.limit (map) (out) _ c.list-at.ensures)
