-- `whole_map::explicit_map::measure` meets its contract. Assumes nothing.
use mathlib.Core.Path.{◌≡◌, sym, ap, subst, ◌∙◌}
use Rattle.kinds.specs.Wholes.{wholes}
use Rattle.sets.specs.Sorted.{given, filter_of}
use Rattle.directory.specs.View.{stores}
use Rattle.refusals.specs.Refusals.{code}
use Rattle.seats.specs.Seats.{seating}
use Rattle.seats.specs.Inner.{Fits}
use Rattle.points.specs.Explicit.{bounds_pass}
use Rattle.explicit_whole_slots.specs.Cells.{Cells, cells}
use Rattle.seats.proofs.Bars.{row-seated}
use Rattle.value_map.specs.Store.{Store}
use lib.IntN.{ℤ}
use mir.Syntax.{w64}
use mir.Val.{to_z, of_z}
use Rattle.rows.specs.Recording.{after}
use Rattle.integers.proofs.Range as Range
use Rattle.value_map.specs.Calls.{Held, held}
use Rattle.whole_map.specs.Explicit.{explicit_wholes}
use Rattle.value_map.specs.Inner.{Takes, taken, turned}
use Rattle.value_map.proofs.Cases.{set_here}
use Rattle.value_map.proofs.Ways.{finish-at, fits-done, took, Way, set-way, Sits, allows}
use Rattle.value_map.proofs.Late.{turned-some, late-ends}
use Rattle.whole_map.proofs.ExplicitOwes.{passes-is, owed, bad_8}
use Rattle.whole_map.proofs.explicit_map.measure.Goals as goal

pub take-done-requires : goal.take-done-requires
take-done-requires c =
    let kind : Store wholes = explicit_wholes c.args.bounds.now c.args.sums in
    let lent_map : Held Cells = let a = c.args in held a.d (stores a.sets.now a.entries.now a.order.now) (cells a.totals.now a.extremes.now a.counts.now) in
    let same-value : to_z w64 (of_z w64 c.args.v) ≡ c.args.v = Range.held c.args.v c.ranges.v in
    let way : Way (kind) c.args.limit (lent_map) = let a = c.args in set-way (owed a.bounds.now a.sums) a.limit (lent_map) (filter_of a.present a.filter.now) (given a.attrs.now) in
    let all-taken : c.takes-value.result ≡ wholes.finite c.args.v = c.takes-value.ensures ∙ ap wholes.finite (same-value) in
    let known : Sits (kind) (lent_map) c.args.v (seating c.seat-seat.result) =
    let a = c.args in
    allows (owed a.bounds.now a.sums) a.limit (lent_map) a.v (way) 0 (c.slots_of-slots.ensures a.limit) (all-taken) c.seat-seat.ensures.value in
    subst (λ (z : ℤ). Takes (kind) (lent_map).cells z (seating c.seat-seat.result).no (seating c.seat-seat.result).slot) (sym (same-value)) (known).takes

pub finish-requires : goal.finish-requires
finish-requires c =
    let kind : Store wholes = explicit_wholes c.args.bounds.now c.args.sums in
    let lent_map : Held Cells = let a = c.args in held a.d (stores a.sets.now a.entries.now a.order.now) (cells a.totals.now a.extremes.now a.counts.now) in
    let way : Way (kind) c.args.limit (lent_map) = let a = c.args in set-way (owed a.bounds.now a.sums) a.limit (lent_map) (filter_of a.present a.filter.now) (given a.attrs.now) in
    let same-value : to_z w64 (of_z w64 c.args.v) ≡ c.args.v = Range.held c.args.v c.ranges.v in
    let all-taken : c.takes-value.result ≡ wholes.finite c.args.v = c.takes-value.ensures ∙ ap wholes.finite (same-value) in
    let known : Sits (kind) (lent_map) c.args.v (seating c.seat-seat.result) =
    let a = c.args in
    allows (owed a.bounds.now a.sums) a.limit (lent_map) a.v (way) 0 (c.slots_of-slots.ensures a.limit) (all-taken) c.seat-seat.ensures.value in
    let took_it : (
    after (code c.take-done.result) (record { totals = c.take-done.new.totals; extremes = c.take-done.new.extremes; counts = c.take-done.new.counts })
    ≡ taken (kind) (lent_map).cells c.args.v (seating c.seat-seat.result).no (turned (bounds_pass c.args.bounds.now) (seating c.seat-seat.result).no) (seating c.seat-seat.result).slot (seating c.seat-seat.result).updated) = c.take-done.ensures.value ∙ ap (λ (z : ℤ). taken (kind) (lent_map).cells z (seating c.seat-seat.result).no (turned (bounds_pass c.args.bounds.now) (seating c.seat-seat.result).no) (seating c.seat-seat.result).slot (seating c.seat-seat.result).updated) (same-value) in
    fits-done c.take-done.result (seating c.seat-seat.result).target (Fits c.args.d (lent_map).kept.stores) c.take-done.ensures.target
    (λ z. (known).fits (took (kind) (lent_map).cells c.args.v (seating c.seat-seat.result).no (turned (bounds_pass c.args.bounds.now) (seating c.seat-seat.result).no) (seating c.seat-seat.result).slot (seating c.seat-seat.result).updated
    (turned-some (bounds_pass c.args.bounds.now) (seating c.seat-seat.result).no) _ (took_it) z))

pub returns : goal.returns
returns c =
    let lent_map : Held Cells = let a = c.args in held a.d (stores a.sets.now a.entries.now a.order.now) (cells a.totals.now a.extremes.now a.counts.now) in
    let kind : Store wholes = explicit_wholes c.args.bounds.now c.args.sums in
    let way : Way (kind) c.args.limit (lent_map) = let a = c.args in set-way (owed a.bounds.now a.sums) a.limit (lent_map) (filter_of a.present a.filter.now) (given a.attrs.now) in
    let same-value : to_z w64 (of_z w64 c.args.v) ≡ c.args.v = Range.held c.args.v c.ranges.v in
    let took_it : (
    after (code c.take-done.result) (record { totals = c.take-done.new.totals; extremes = c.take-done.new.extremes; counts = c.take-done.new.counts })
    ≡ taken (kind) (lent_map).cells c.args.v (seating c.seat-seat.result).no (turned (bounds_pass c.args.bounds.now) (seating c.seat-seat.result).no) (seating c.seat-seat.result).slot (seating c.seat-seat.result).updated) = c.take-done.ensures.value ∙ ap (λ (z : ℤ). taken (kind) (lent_map).cells z (seating c.seat-seat.result).no (turned (bounds_pass c.args.bounds.now) (seating c.seat-seat.result).no) (seating c.seat-seat.result).slot (seating c.seat-seat.result).updated) (same-value) in
    let all-taken : c.takes-value.result ≡ wholes.finite c.args.v = c.takes-value.ensures ∙ ap wholes.finite (same-value) in
    let known : Sits (kind) (lent_map) c.args.v (seating c.seat-seat.result) =
    let a = c.args in
    allows (owed a.bounds.now a.sums) a.limit (lent_map) a.v (way) 0 (c.slots_of-slots.ensures a.limit) (all-taken) c.seat-seat.ensures.value in
    let a = c.args in
    let b = a.bounds.now in
    late-ends (owed b a.sums) a.limit (lent_map) a.v (way) (bounds_pass b) (passes-is b a.sums) (seating c.seat-seat.result) _ _ _ (c.finish.ensures ∙ finish-at c.take-done.result _ _ _ _ c.take-done.ensures.target) (took_it)
    (c.slots_of-slots.ensures a.limit) (all-taken) c.seat-seat.ensures.value (row-seated _ _ _ _ _ c.seat-seat.ensures.value _ c.seat-seat.ensures.row_after)
    (λ i z. let m = (known).takes z in bad_8 b a.sums (lent_map).cells (seating c.seat-seat.result).slot (seating c.seat-seat.result).updated a.v m.0 m.1 i)
    ∙ set_here (kind) a.limit (lent_map) a.v (filter_of a.present a.filter.now) (given a.attrs.now)
