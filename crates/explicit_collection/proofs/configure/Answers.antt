-- `explicit_collection::configure` meets its contract. Assumes nothing.
use Rattle.refusals.specs.Refusals.{said}
use Rattle.sets.specs.Sorted.{filter_of}
use Rattle.directory.specs.View.{stores}
use Rattle.explicit_slots.specs.Cells.{cells}
use Rattle.value_map.specs.Explicit.{explicit_store}
use Rattle.collecting.proofs.Configures.{configured-is}
use Rattle.explicit_collection.specs.Configured.{configured}
use Rattle.explicit_collection.proofs.configure.Goals as goal

pub returns : goal.returns
unfolding configured
returns c =
    let a = c.args in
    configured-is (explicit_store a.bounds.now) (λ d. record { settings = record { extremes = a.show; sums = a.sums; limit = a.limit }; dir = d }) a.limit
    (filter_of a.present a.filter.now) (stores a.sets.now a.entries.now a.order.now) (cells a.totals.now a.extremes.now a.counts.now) c.start-reply.result _ (said c.set_up.result)
    c.start-reply.ensures c.set_up.ensures
