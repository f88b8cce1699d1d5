-- `explicit_collection::collect::cumulative` meets its contract. Assumes nothing.
use mathlib.Core.Path.{refl, sym, ap, ◌∙◌}
use mathlib.Core.Bool.{true}
use Rattle.refusals.specs.Refusals.{number}
use Rattle.refusals.proofs.Numbers.{number-nonzero, passed-on}
use Rattle.directory.specs.View.{stores}
use Rattle.explicit_slots.specs.Cells.{Cells, cells}
use Rattle.value_map.specs.Calls.{Held, held}
use Rattle.value_map.proofs.ExplicitOwes.{owed}
use Rattle.listing.specs.Listed.{Output, output}
use Rattle.collecting.specs.Collected.{gave}
use Rattle.collecting.proofs.Ends.{cumulative-refused, cumulative-done}
use Rattle.collecting.proofs.Decides.{listable, listed-is}
use Rattle.explicit_collection.specs.Points.{explicit_lister}
use Rattle.explicit_collection.proofs.collect.cumulative.Goals as goal

pub number-requires : goal.number-requires
number-requires c = c.requires

pub returns-in_err-number : goal.returns-in_err-number
returns-in_err-number c =
    let map : Held Cells = let a = c.args in held a.d (stores a.sets.now a.entries.now a.order.now) (cells a.totals.now a.extremes.now a.counts.now) in
    let out : Output = let a = c.args in output a.out_sets.now a.out_words.now a.out_pos.now a.out_neg.now in
    let a = c.args in
    ap (λ r. gave r (map) (out)) (passed-on c.from_residual.result c.in_err-number.field-0.0 c.from_residual.ensures.1)
    ∙ cumulative-refused (explicit_lister a.bounds.now) (a.s.extremes, a.s.sums) a.s.limit (map) (out) (number c.in_err-number.field-0.0) c.in_err-number.ensures (number-nonzero c.in_err-number.field-0.0)

pub list-end-requires : goal.list-end-requires
list-end-requires c =
    let map : Held Cells = let a = c.args in held a.d (stores a.sets.now a.entries.now a.order.now) (cells a.totals.now a.extremes.now a.counts.now) in
    let out : Output = let a = c.args in output a.out_sets.now a.out_words.now a.out_pos.now a.out_neg.now in
    let a = c.args in
    listable (explicit_lister a.bounds.now) (owed a.bounds.now) (a.s.extremes, a.s.sums) true a.s.limit (map) (out) 0 c.in_ok-number.ensures refl

pub returns : goal.returns
returns c =
    let map : Held Cells = let a = c.args in held a.d (stores a.sets.now a.entries.now a.order.now) (cells a.totals.now a.extremes.now a.counts.now) in
    let out : Output = let a = c.args in output a.out_sets.now a.out_words.now a.out_pos.now a.out_neg.now in
    let a = c.args in
    cumulative-done (explicit_lister a.bounds.now) (a.s.extremes, a.s.sums) a.s.limit (map) (out) _ (sym c.in_ok-number.ensures)
    (listed-is (explicit_lister a.bounds.now) (owed a.bounds.now) (a.s.extremes, a.s.sums) true a.s.limit (map) (out) _ c.list-end.ensures)
