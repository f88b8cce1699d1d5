-- `value_map::exponential_map::measure` meets its contract. Assumes nothing.
use mathlib.Core.Path.{◌∙◌}
use Rattle.kinds.specs.Histograms.{histograms}
use Rattle.sets.specs.Sorted.{given, filter_of}
use Rattle.directory.specs.View.{stores}
use Rattle.refusals.specs.Refusals.{code}
use Rattle.seats.specs.Seats.{seating}
use Rattle.seats.specs.Inner.{Fits}
use Rattle.exponential_slots.specs.Cells.{Cells, cells}
use Rattle.seats.proofs.Bars.{row-seated}
use Rattle.value_map.specs.Store.{Store}
use Rattle.value_map.specs.Calls.{Held, held}
use Rattle.value_map.specs.Exponential.{exponential_store}
use Rattle.value_map.proofs.Cases.{set_here}
use Rattle.value_map.proofs.Ways.{finish-at, fits-done, took, Way, set-way, Sits, allows, ends}
use Rattle.value_map.proofs.ExponentialOwes.{owed}
use Rattle.value_map.proofs.exponential_map.measure.Goals as goal

pub take-done-requires : goal.take-done-requires
take-done-requires c =
    let kind : Store histograms = exponential_store c.args.size c.args.top in
    let lent_map : Held Cells = let a = c.args in held a.d (stores a.sets.now a.entries.now a.order.now) (cells a.figures.now a.extremes.now a.pos.now a.neg.now) in
    let way : Way (kind) c.args.limit (lent_map) = let a = c.args in set-way (owed a.size a.top) a.limit (lent_map) (filter_of a.present a.filter.now) (given a.attrs.now) in
    let known : Sits (kind) (lent_map) c.args.v (seating c.seat-seat.result) =
    let a = c.args in
    allows (owed a.size a.top) a.limit (lent_map) a.v (way) (code c.unset_of-unset.result) (c.slots_of-slots.ensures a.limit) c.takes-value.ensures c.seat-seat.ensures.value in
    (known).takes

pub finish-requires : goal.finish-requires
finish-requires c =
    let kind : Store histograms = exponential_store c.args.size c.args.top in
    let lent_map : Held Cells = let a = c.args in held a.d (stores a.sets.now a.entries.now a.order.now) (cells a.figures.now a.extremes.now a.pos.now a.neg.now) in
    let way : Way (kind) c.args.limit (lent_map) = let a = c.args in set-way (owed a.size a.top) a.limit (lent_map) (filter_of a.present a.filter.now) (given a.attrs.now) in
    let known : Sits (kind) (lent_map) c.args.v (seating c.seat-seat.result) =
    let a = c.args in
    allows (owed a.size a.top) a.limit (lent_map) a.v (way) (code c.unset_of-unset.result) (c.slots_of-slots.ensures a.limit) c.takes-value.ensures c.seat-seat.ensures.value in
    fits-done c.take-done.result (seating c.seat-seat.result).target (Fits c.args.d (lent_map).kept.stores) c.take-done.ensures.target
    (λ z. (known).fits (took (kind) (lent_map).cells c.args.v (seating c.seat-seat.result).no (seating c.seat-seat.result).no (seating c.seat-seat.result).slot (seating c.seat-seat.result).updated (λ d. d) _ c.take-done.ensures.value z))

pub returns : goal.returns
returns c =
    let lent_map : Held Cells = let a = c.args in held a.d (stores a.sets.now a.entries.now a.order.now) (cells a.figures.now a.extremes.now a.pos.now a.neg.now) in
    let kind : Store histograms = exponential_store c.args.size c.args.top in
    let way : Way (kind) c.args.limit (lent_map) = let a = c.args in set-way (owed a.size a.top) a.limit (lent_map) (filter_of a.present a.filter.now) (given a.attrs.now) in
    let a = c.args in
    ends (owed a.size a.top) a.limit (lent_map) a.v (way) (seating c.seat-seat.result) _ _ _ (c.finish.ensures ∙ finish-at c.take-done.result _ _ _ _ c.take-done.ensures.target)
    (c.slots_of-slots.ensures a.limit) c.takes-value.ensures c.unset_of-unset.ensures c.seat-seat.ensures.value (row-seated _ _ _ _ _ c.seat-seat.ensures.value _ c.seat-seat.ensures.row_after) c.take-done.ensures.value
    ∙ set_here (kind) a.limit (lent_map) a.v (filter_of a.present a.filter.now) (given a.attrs.now)
