-- `single_batches::measure_by_agreed` meets its contract: a list of one value is the single call. Assumes nothing.
use Rattle.directory.specs.View.{stores}
use Rattle.value_map.specs.Calls.{held}
use Rattle.batches.proofs.Ends.{one-by}
use Rattle.singles.specs.Stores.{single_store}
use Rattle.single_batches.proofs.measure_by_agreed.Goals as goal

pub returns : goal.returns
returns c =
    let a = c.args in
    one-by (single_store a.aggregation) a.limit (held a.d (stores a.sets.now a.entries.now a.order.now) a.values.now) a.v
    c.all_by-got.result c.single.result c.single.ensures _ _ a.h c.all_by-got.ensures
