-- `value_map::explicit_map::measure_by` meets its contract. Assumes nothing.
use mathlib.Core.Path.{refl, ◌∙◌}
use Rattle.kinds.specs.Histograms.{histograms}
use Rattle.directory.specs.View.{stores}
use Rattle.seats.specs.Seats.{seating}
use Rattle.seats.specs.Inner.{Fits}
use Rattle.points.specs.Explicit.{bounds_pass}
use Rattle.explicit_slots.specs.Cells.{Cells, cells}
use Rattle.value_map.specs.Store.{Store}
use Rattle.value_map.specs.Calls.{Held, held}
use Rattle.value_map.specs.Explicit.{explicit_store}
use Rattle.value_map.specs.Inner.{turned}
use Rattle.value_map.proofs.Cases.{by-here}
use Rattle.value_map.proofs.Ways.{finish-at, fits-done, took, Way, by_way, Sits, allows}
use Rattle.value_map.proofs.Late.{turned-some, late-ends}
use Rattle.value_map.proofs.Values.{finite-is}
use Rattle.value_map.proofs.ExplicitOwes.{passes-is, owed, bad_8}
use Rattle.value_map.proofs.explicit_map.measure_by.Goals as goal

pub take-done-requires : goal.take-done-requires
take-done-requires c =
    let kind : Store histograms = explicit_store c.args.bounds.now in
    let lent_map : Held Cells = let a = c.args in held a.d (stores a.sets.now a.entries.now a.order.now) (cells a.totals.now a.extremes.now a.counts.now) in
    let way : Way (kind) c.args.limit (lent_map) = let a = c.args in by_way (owed a.bounds.now) a.limit (lent_map) a.h in
    let known : Sits (kind) (lent_map) c.args.v (seating c.seat_by-seat.result) =
    let a = c.args in
    allows (owed a.bounds.now) a.limit (lent_map) a.v (way) 0 (c.slots_of-slots.ensures a.limit) c.takes-value.ensures c.seat_by-seat.ensures in
    (known).takes

pub finish-requires : goal.finish-requires
finish-requires c =
    let kind : Store histograms = explicit_store c.args.bounds.now in
    let lent_map : Held Cells = let a = c.args in held a.d (stores a.sets.now a.entries.now a.order.now) (cells a.totals.now a.extremes.now a.counts.now) in
    let way : Way (kind) c.args.limit (lent_map) = let a = c.args in by_way (owed a.bounds.now) a.limit (lent_map) a.h in
    let known : Sits (kind) (lent_map) c.args.v (seating c.seat_by-seat.result) =
    let a = c.args in
    allows (owed a.bounds.now) a.limit (lent_map) a.v (way) 0 (c.slots_of-slots.ensures a.limit) c.takes-value.ensures c.seat_by-seat.ensures in
    fits-done c.take-done.result (seating c.seat_by-seat.result).target (Fits c.args.d (lent_map).kept.stores) c.take-done.ensures.target
    (λ z. (known).fits (took (kind) (lent_map).cells c.args.v (seating c.seat_by-seat.result).no (turned (bounds_pass c.args.bounds.now) (seating c.seat_by-seat.result).no) (seating c.seat_by-seat.result).slot (seating c.seat_by-seat.result).updated
    (turned-some (bounds_pass c.args.bounds.now) (seating c.seat_by-seat.result).no) _ c.take-done.ensures.value z))

pub returns : goal.returns
returns c =
    let lent_map : Held Cells = let a = c.args in held a.d (stores a.sets.now a.entries.now a.order.now) (cells a.totals.now a.extremes.now a.counts.now) in
    let kind : Store histograms = explicit_store c.args.bounds.now in
    let way : Way (kind) c.args.limit (lent_map) = let a = c.args in by_way (owed a.bounds.now) a.limit (lent_map) a.h in
    let known : Sits (kind) (lent_map) c.args.v (seating c.seat_by-seat.result) =
    let a = c.args in
    allows (owed a.bounds.now) a.limit (lent_map) a.v (way) 0 (c.slots_of-slots.ensures a.limit) c.takes-value.ensures c.seat_by-seat.ensures in
    let a = c.args in
    let b = a.bounds.now in
    late-ends (owed b) a.limit (lent_map) a.v (way) (bounds_pass b) (passes-is b) (seating c.seat_by-seat.result) _ _ _ (c.finish.ensures ∙ finish-at c.take-done.result _ _ _ _ c.take-done.ensures.target) c.take-done.ensures.value
    (c.slots_of-slots.ensures a.limit) c.takes-value.ensures c.seat_by-seat.ensures (λ z. refl)
    (λ i z. let m = (known).takes z in bad_8 b (lent_map).cells (seating c.seat_by-seat.result).slot (seating c.seat_by-seat.result).updated a.v m.0 (finite-is a.v m.1) i)
    ∙ by-here (kind) a.limit (lent_map) a.v a.h
