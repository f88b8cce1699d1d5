-- `single_batches::measure_agreed` meets its contract: a list of one value is the single call. Assumes nothing.
use Rattle.sets.specs.Sorted.{given, filter_of}
use Rattle.directory.specs.View.{stores}
use Rattle.value_map.specs.Calls.{held}
use Rattle.batches.proofs.Ends.{one_for}
use Rattle.singles.specs.Stores.{single_store}
use Rattle.single_batches.proofs.measure_agreed.Goals as goal

pub returns : goal.returns
returns c =
    let a = c.args in
    one_for (single_store a.aggregation) a.limit (held a.d (stores a.sets.now a.entries.now a.order.now) a.values.now) a.v
    c.all-got.result c.single.result c.single.ensures _ _ (filter_of a.present a.filter.now) (given a.attrs.now) c.all-got.ensures
