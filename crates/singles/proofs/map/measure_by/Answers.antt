-- `singles::map::measure_by` meets its contract. Assumes nothing.
use mathlib.Core.Path.{refl, ◌∙◌}
use mathlib.Core.List.{List}
use lib.Ieee.{Float}
use Rattle.directory.specs.View.{stores}
use Rattle.seats.specs.Seats.{seating}
use Rattle.seats.specs.Inner.{Fits}
use Rattle.value_map.specs.Store.{Store}
use Rattle.value_map.specs.Calls.{Held, held}
use Rattle.value_map.proofs.Cases.{by-here}
use Rattle.value_map.proofs.Ways.{finish-at, fits-done, took, Way, by_way, Sits, allows, ends}
use Rattle.singles.specs.Kinds.{singles}
use Rattle.singles.specs.Stores.{single_store}
use Rattle.singles.proofs.Owes.{owed}
use Rattle.singles.proofs.map.measure_by.Goals as goal

pub take-done-requires : goal.take-done-requires
take-done-requires c =
    let kind : Store (singles c.args.aggregation) = single_store c.args.aggregation in
    let lent_map : Held (List Float) = let a = c.args in held a.d (stores a.sets.now a.entries.now a.order.now) a.values.now in
    let way : Way (kind) c.args.limit (lent_map) = let a = c.args in by_way (owed a.aggregation) a.limit (lent_map) a.h in
    let known : Sits (kind) (lent_map) c.args.v (seating c.seat_by-seat.result) =
    let a = c.args in
    allows (owed a.aggregation) a.limit (lent_map) a.v (way) 0 refl c.takes-value.ensures c.seat_by-seat.ensures in
    (known).takes

pub finish-requires : goal.finish-requires
finish-requires c =
    let kind : Store (singles c.args.aggregation) = single_store c.args.aggregation in
    let lent_map : Held (List Float) = let a = c.args in held a.d (stores a.sets.now a.entries.now a.order.now) a.values.now in
    let way : Way (kind) c.args.limit (lent_map) = let a = c.args in by_way (owed a.aggregation) a.limit (lent_map) a.h in
    let known : Sits (kind) (lent_map) c.args.v (seating c.seat_by-seat.result) =
    let a = c.args in
    allows (owed a.aggregation) a.limit (lent_map) a.v (way) 0 refl c.takes-value.ensures c.seat_by-seat.ensures in
    fits-done c.take-done.result (seating c.seat_by-seat.result).target (Fits c.args.d (lent_map).kept.stores) c.take-done.ensures.target
    (λ z. (known).fits (took (kind) (lent_map).cells c.args.v (seating c.seat_by-seat.result).no (seating c.seat_by-seat.result).no (seating c.seat_by-seat.result).slot (seating c.seat_by-seat.result).updated (λ d. d) _ c.take-done.ensures.value z))

pub returns : goal.returns
returns c =
    let lent_map : Held (List Float) = let a = c.args in held a.d (stores a.sets.now a.entries.now a.order.now) a.values.now in
    let kind : Store (singles c.args.aggregation) = single_store c.args.aggregation in
    let way : Way (kind) c.args.limit (lent_map) = let a = c.args in by_way (owed a.aggregation) a.limit (lent_map) a.h in
    let a = c.args in
    ends (owed a.aggregation) a.limit (lent_map) a.v (way) (seating c.seat_by-seat.result) _ _ _ (c.finish.ensures ∙ finish-at c.take-done.result _ _ _ _ c.take-done.ensures.target)
    refl c.takes-value.ensures refl c.seat_by-seat.ensures (λ z. refl) c.take-done.ensures.value
    ∙ by-here (kind) a.limit (lent_map) a.v a.h
