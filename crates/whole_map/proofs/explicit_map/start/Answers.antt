-- `whole_map::explicit_map::start` meets its contract. Assumes nothing.
use Rattle.sets.specs.Sorted.{filter_of}
use Rattle.directory.specs.View.{stores}
use Rattle.explicit_whole_slots.specs.Cells.{cells}
use Rattle.whole_map.specs.Explicit.{explicit_wholes}
use Rattle.value_map.proofs.Cases.{start_is}
use Rattle.whole_map.proofs.explicit_map.start.Goals as goal

pub returns : goal.returns
returns c =
    let a = c.args in
    start_is (explicit_wholes a.bounds.now a.sums) a.limit (filter_of a.present a.filter.now) (stores a.sets.now a.entries.now a.order.now)
    (cells a.totals.now a.extremes.now a.counts.now) _ c.unset_of-unset.ensures c.cells_suffice-room.ensures c.begin.ensures
