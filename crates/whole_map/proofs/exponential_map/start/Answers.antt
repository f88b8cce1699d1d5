-- `whole_map::exponential_map::start` meets its contract. Assumes nothing.
use Rattle.sets.specs.Sorted.{filter_of}
use Rattle.directory.specs.View.{stores}
use Rattle.exponential_whole_slots.specs.Cells.{cells}
use Rattle.whole_map.specs.Exponential.{exponential_wholes}
use Rattle.value_map.proofs.Cases.{start_is}
use Rattle.whole_map.proofs.exponential_map.start.Goals as goal

pub returns : goal.returns
returns c =
    let a = c.args in
    start_is (exponential_wholes a.size a.top a.sums) a.limit (filter_of a.present a.filter.now) (stores a.sets.now a.entries.now a.order.now)
    (cells a.figures.now a.extremes.now a.pos.now a.neg.now) _ c.unset_of-unset.ensures c.cells_suffice-room.ensures c.begin.ensures
