-- `whole_map::exponential_map::measure_by` meets its contract. Assumes nothing.
use mathlib.Core.Path.{◌≡◌, refl, sym, ap, subst, ◌∙◌}
use Rattle.kinds.specs.Wholes.{wholes}
use Rattle.directory.specs.View.{stores}
use Rattle.refusals.specs.Refusals.{code}
use Rattle.seats.specs.Seats.{seating}
use Rattle.seats.specs.Inner.{Fits}
use Rattle.exponential_whole_slots.specs.Cells.{Cells, cells}
use Rattle.value_map.specs.Store.{Store}
use lib.IntN.{ℤ}
use mir.Syntax.{w64}
use mir.Val.{to_z, of_z}
use Rattle.rows.specs.Recording.{after}
use Rattle.integers.proofs.Range as Range
use Rattle.value_map.specs.Inner.{Takes, taken}
use Rattle.value_map.specs.Calls.{Held, held}
use Rattle.whole_map.specs.Exponential.{exponential_wholes}
use Rattle.value_map.proofs.Cases.{by-here}
use Rattle.value_map.proofs.Ways.{finish-at, fits-done, took, Way, by_way, Sits, allows, ends}
use Rattle.whole_map.proofs.ExponentialOwes.{owed}
use Rattle.whole_map.proofs.exponential_map.measure_by.Goals as goal

pub take-done-requires : goal.take-done-requires
take-done-requires c =
    let kind : Store wholes = exponential_wholes c.args.size c.args.top c.args.sums in
    let lent_map : Held Cells = let a = c.args in held a.d (stores a.sets.now a.entries.now a.order.now) (cells a.figures.now a.extremes.now a.pos.now a.neg.now) in
    let same-value : to_z w64 (of_z w64 c.args.v) ≡ c.args.v = Range.held c.args.v c.ranges.v in
    let way : Way (kind) c.args.limit (lent_map) = let a = c.args in by_way (owed a.size a.top a.sums) a.limit (lent_map) a.h in
    let all-taken : c.takes-value.result ≡ wholes.finite c.args.v = c.takes-value.ensures ∙ ap wholes.finite (same-value) in
    let known : Sits (kind) (lent_map) c.args.v (seating c.seat_by-seat.result) =
    let a = c.args in
    allows (owed a.size a.top a.sums) a.limit (lent_map) a.v (way) (code c.unset_of-unset.result) (c.slots_of-slots.ensures a.limit) (all-taken) c.seat_by-seat.ensures in
    subst (λ (z : ℤ). Takes (kind) (lent_map).cells z (seating c.seat_by-seat.result).no (seating c.seat_by-seat.result).slot) (sym (same-value)) (known).takes

pub finish-requires : goal.finish-requires
finish-requires c =
    let kind : Store wholes = exponential_wholes c.args.size c.args.top c.args.sums in
    let lent_map : Held Cells = let a = c.args in held a.d (stores a.sets.now a.entries.now a.order.now) (cells a.figures.now a.extremes.now a.pos.now a.neg.now) in
    let way : Way (kind) c.args.limit (lent_map) = let a = c.args in by_way (owed a.size a.top a.sums) a.limit (lent_map) a.h in
    let same-value : to_z w64 (of_z w64 c.args.v) ≡ c.args.v = Range.held c.args.v c.ranges.v in
    let all-taken : c.takes-value.result ≡ wholes.finite c.args.v = c.takes-value.ensures ∙ ap wholes.finite (same-value) in
    let known : Sits (kind) (lent_map) c.args.v (seating c.seat_by-seat.result) =
    let a = c.args in
    allows (owed a.size a.top a.sums) a.limit (lent_map) a.v (way) (code c.unset_of-unset.result) (c.slots_of-slots.ensures a.limit) (all-taken) c.seat_by-seat.ensures in
    let took_it : (
    after (code c.take-done.result) (record { figures = c.take-done.new.figures; extremes = c.take-done.new.extremes; pos = c.take-done.new.pos; neg = c.take-done.new.neg }) ≡ taken (kind) (lent_map).cells c.args.v (seating c.seat_by-seat.result).no (seating c.seat_by-seat.result).no (seating c.seat_by-seat.result).slot (seating c.seat_by-seat.result).updated) = c.take-done.ensures.value ∙ ap (λ (z : ℤ). taken (kind) (lent_map).cells z (seating c.seat_by-seat.result).no (seating c.seat_by-seat.result).no (seating c.seat_by-seat.result).slot (seating c.seat_by-seat.result).updated) (same-value) in
    fits-done c.take-done.result (seating c.seat_by-seat.result).target (Fits c.args.d (lent_map).kept.stores) c.take-done.ensures.target
    (λ z. (known).fits (took (kind) (lent_map).cells c.args.v (seating c.seat_by-seat.result).no (seating c.seat_by-seat.result).no (seating c.seat_by-seat.result).slot (seating c.seat_by-seat.result).updated (λ d. d) _ (took_it) z))

pub returns : goal.returns
returns c =
    let lent_map : Held Cells = let a = c.args in held a.d (stores a.sets.now a.entries.now a.order.now) (cells a.figures.now a.extremes.now a.pos.now a.neg.now) in
    let kind : Store wholes = exponential_wholes c.args.size c.args.top c.args.sums in
    let way : Way (kind) c.args.limit (lent_map) = let a = c.args in by_way (owed a.size a.top a.sums) a.limit (lent_map) a.h in
    let same-value : to_z w64 (of_z w64 c.args.v) ≡ c.args.v = Range.held c.args.v c.ranges.v in
    let all-taken : c.takes-value.result ≡ wholes.finite c.args.v = c.takes-value.ensures ∙ ap wholes.finite (same-value) in
    let took_it : (
    after (code c.take-done.result) (record { figures = c.take-done.new.figures; extremes = c.take-done.new.extremes; pos = c.take-done.new.pos; neg = c.take-done.new.neg }) ≡ taken (kind) (lent_map).cells c.args.v (seating c.seat_by-seat.result).no (seating c.seat_by-seat.result).no (seating c.seat_by-seat.result).slot (seating c.seat_by-seat.result).updated) = c.take-done.ensures.value ∙ ap (λ (z : ℤ). taken (kind) (lent_map).cells z (seating c.seat_by-seat.result).no (seating c.seat_by-seat.result).no (seating c.seat_by-seat.result).slot (seating c.seat_by-seat.result).updated) (same-value) in
    let a = c.args in
    ends (owed a.size a.top a.sums) a.limit (lent_map) a.v (way) (seating c.seat_by-seat.result) _ _ _ (c.finish.ensures ∙ finish-at c.take-done.result _ _ _ _ c.take-done.ensures.target)
    (c.slots_of-slots.ensures a.limit) (all-taken) c.unset_of-unset.ensures c.seat_by-seat.ensures (λ z. refl) (took_it)
    ∙ by-here (kind) a.limit (lent_map) a.v a.h
