-- `singles::configure` meets its contract. Assumes nothing.
use mathlib.Core.Path.{refl}
use Rattle.sets.specs.Sorted.{filter_of}
use Rattle.directory.specs.View.{stores}
use Rattle.value_map.proofs.Cases.{start_is}
use Rattle.collecting.proofs.Configures.{configured-is}
use Rattle.singles.specs.Stores.{single_store}
use Rattle.refusals.specs.Refusals.{said}
use Rattle.singles.specs.Configured.{configured}
use Rattle.singles.proofs.configure.Goals as goal

pub returns : goal.returns
unfolding configured
returns c =
    let a = c.args in
    let S = single_store a.aggregation in
    let filter = filter_of a.present a.filter.now in
    let s = stores a.sets.now a.entries.now a.order.now in
    configured-is S (λ d. record { settings = record { aggregation = a.aggregation; limit = a.limit }; dir = d }) a.limit filter s
    a.values.now c.begin-reply.result _ (said c.set_up.result)
    (start_is S a.limit filter s a.values.now _ refl c.suffices-room.ensures c.begin-reply.ensures) c.set_up.ensures
