-- `exponential_batches::measure_agreed` meets its contract. Assumes nothing.
use Rattle.sets.specs.Sorted.{given, filter_of}
use Rattle.directory.specs.View.{stores}
use Rattle.exponential_slots.specs.Cells.{Cells, cells}
use Rattle.value_map.specs.Calls.{Held, held}
use Rattle.value_map.specs.Exponential.{exponential_store}
use Rattle.batches.proofs.Ends.{one_for}
use Rattle.exponential_batches.proofs.measure_agreed.Goals as goal

pub returns : goal.returns
returns c =
    let lent_map : Held Cells = let a = c.args in held a.d (stores a.sets.now a.entries.now a.order.now) (cells a.figures.now a.extremes.now a.pos.now a.neg.now) in
    let a = c.args in
    one_for (exponential_store a.size a.top) a.limit (lent_map) a.v c.all-got.result c.single.result c.single.ensures _ _ (filter_of a.present a.filter.now) (given a.attrs.now) c.all-got.ensures
