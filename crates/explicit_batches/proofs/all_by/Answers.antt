-- `explicit_batches::all_by` meets its contract. Assumes nothing.
-- ---- before the seat
-- ---- at the seat
use Prim.Native.Nat.{◌+◌, ◌^◌, ◌≤◌, ◌<◌}
use mathlib.Core.Path.{◌≡◌, refl, sym, ap, ◌∙◌}
use mathlib.Core.Bool.{true}
use native.Mathlib.Omega.{arith}
use lib.Dec.{leb}
use lib.ListN.{length, get_or, drop}
use lib.Ieee.{Float, nan}
use Rattle.points.specs.Explicit.{bucket_count}
use Rattle.directory.specs.View.{stores}
use Rattle.refusals.specs.Refusals.{code}
use Rattle.refusals.proofs.Numbers.{number-nonzero}
use Rattle.seats.specs.Seats.{seating}
use Rattle.batches.proofs.Batches.{stop-on}
use Rattle.explicit_slots.specs.Cells.{Cells, cells}
use Rattle.value_map.specs.Calls.{Held, held}
use Rattle.value_map.specs.Explicit.{cells_suffice}
use Rattle.value_map.proofs.ExplicitOwes.{owed}
use Rattle.batches.proofs.Ends.{cut-first, sure-by, by-none, by-takes, by-finite, by-away, by_fits, by-ends}
use Rattle.explicit_batches.proofs.Suffices.{slots_suffice}
use Rattle.explicit_batches.proofs.all_by.Goals as goal

pub returns-then-values-eq0 : goal.returns-then-values-eq0
returns-then-values-eq0 c =
    let lent_map : Held Cells = let a = c.args in held a.d (stores a.sets.now a.entries.now a.order.now) (cells a.totals.now a.extremes.now a.counts.now) in
    let a = c.args in
    by-none (owed a.bounds.now) (true, true) a.limit (lent_map) a.h c.args.values.now c.if-values-eq0.true

pub unset_if-unset-requires : goal.unset_if-unset-requires
unset_if-unset-requires c k = (c.requires k).0.set

pub seat_by_if-found-requires : goal.seat_by_if-found-requires
seat_by_if-found-requires c k =
    let lent_map : Held Cells = let a = c.args in held a.d (stores a.sets.now a.entries.now a.order.now) (cells a.totals.now a.extremes.now a.counts.now) in
    let few : length c.args.totals.now ≤ 18446744073709551615 = omega (arith, c) in
    let suffices : leb (c.args.limit + 2) c.slots_if-slots.result ≡ cells_suffice c.args.bounds.now c.args.limit (lent_map).cells =
    let a = c.args in
    slots_suffice (bucket_count a.bounds.now) a.limit (length a.counts.now) (length a.totals.now) (length a.extremes.now) c.cells_suffice-suffice.result c.slots_if-slots.result (few)
    c.cells_suffice-suffice.ensures c.slots_if-slots.ensures in
    let a = c.args in
    sure-by (owed a.bounds.now) (true, true) a.limit (lent_map) c.slots_if-slots.result (code c.unset_if-unset.result) (suffices) c.unset_if-unset.ensures a.h (c.requires k)

pub returns-in-Err : goal.returns-in-Err
returns-in-Err c =
    let lent_map : Held Cells = let a = c.args in held a.d (stores a.sets.now a.entries.now a.order.now) (cells a.totals.now a.extremes.now a.counts.now) in
    let first : Float = get_or c.args.values.now 0 nan in
    let few : length c.args.totals.now ≤ 18446744073709551615 = omega (arith, c) in
    let suffices : leb (c.args.limit + 2) c.slots_if-slots.result ≡ cells_suffice c.args.bounds.now c.args.limit (lent_map).cells =
    let a = c.args in
    slots_suffice (bucket_count a.bounds.now) a.limit (length a.counts.now) (length a.totals.now) (length a.extremes.now) c.cells_suffice-suffice.result c.slots_if-slots.result (few)
    c.cells_suffice-suffice.ensures c.slots_if-slots.ensures in
    let some : 0 < length c.args.values.now = omega (arith, c.if-values-eq0.false) in
    let a = c.args in
    by-away (owed a.bounds.now) (true, true) a.limit (lent_map) a.h (first) (suffices) c.takes-value.ensures c.unset_if-unset.ensures
    (sym (ap seating c.in-Err.is) ∙ c.seat_by_if-found.ensures) (number-nonzero c.in-Err.e) c.args.values.now (drop 1 c.args.values.now) (cut-first c.args.values.now nan (some))

pub record_all-got-requires : goal.record_all-got-requires
record_all-got-requires c =
    let lent_map : Held Cells = let a = c.args in held a.d (stores a.sets.now a.entries.now a.order.now) (cells a.totals.now a.extremes.now a.counts.now) in
    let first : Float = get_or c.args.values.now 0 nan in
    let few : length c.args.totals.now ≤ 18446744073709551615 = omega (arith, c) in
    let suffices : leb (c.args.limit + 2) c.slots_if-slots.result ≡ cells_suffice c.args.bounds.now c.args.limit (lent_map).cells =
    let a = c.args in
    slots_suffice (bucket_count a.bounds.now) a.limit (length a.counts.now) (length a.totals.now) (length a.extremes.now) c.cells_suffice-suffice.result c.slots_if-slots.result (few)
    c.cells_suffice-suffice.ensures c.slots_if-slots.ensures in
    let some : 0 < length c.args.values.now = omega (arith, c.if-values-eq0.false) in
    let a = c.args in
    let e = sym (ap seating c.in-Ok.is) ∙ c.seat_by_if-found.ensures in
    let k = by-takes (owed a.bounds.now) (true, true) a.limit (lent_map) a.h (first) (suffices) c.takes-value.ensures c.unset_if-unset.ensures e a.known c.requires refl in
    record {
      room = k.1;
      set = k.0;
      some = some;
      first = by-finite (owed a.bounds.now) (true, true) a.limit (lent_map) a.h (first) (suffices) c.takes-value.ensures c.unset_if-unset.ensures e refl;
      series = k.2;
    }

pub finish_all-requires : goal.finish_all-requires
finish_all-requires c k =
    let lent_map : Held Cells = let a = c.args in held a.d (stores a.sets.now a.entries.now a.order.now) (cells a.totals.now a.extremes.now a.counts.now) in
    let first : Float = get_or c.args.values.now 0 nan in
    let few : length c.args.totals.now ≤ 18446744073709551615 = omega (arith, c) in
    let suffices : leb (c.args.limit + 2) c.slots_if-slots.result ≡ cells_suffice c.args.bounds.now c.args.limit (lent_map).cells =
    let a = c.args in
    slots_suffice (bucket_count a.bounds.now) a.limit (length a.counts.now) (length a.totals.now) (length a.extremes.now) c.cells_suffice-suffice.result c.slots_if-slots.result (few)
    c.cells_suffice-suffice.ensures c.slots_if-slots.ensures in
    let some : 0 < length c.args.values.now = omega (arith, c.if-values-eq0.false) in
    let a = c.args in
    let e = sym (ap seating c.in-Ok.is) ∙ c.seat_by_if-found.ensures in
    by_fits (owed a.bounds.now) (true, true) a.limit (lent_map) a.h (first) (suffices) c.takes-value.ensures c.unset_if-unset.ensures e
    c.args.values.now (drop 1 c.args.values.now) (cut-first c.args.values.now nan (some)) _ (c.record_all-got.ensures ∙ sym (stop-on 0 _ _ refl)) k

pub returns : goal.returns
returns c =
    let lent_map : Held Cells = let a = c.args in held a.d (stores a.sets.now a.entries.now a.order.now) (cells a.totals.now a.extremes.now a.counts.now) in
    let first : Float = get_or c.args.values.now 0 nan in
    let few : length c.args.totals.now ≤ 18446744073709551615 = omega (arith, c) in
    let suffices : leb (c.args.limit + 2) c.slots_if-slots.result ≡ cells_suffice c.args.bounds.now c.args.limit (lent_map).cells =
    let a = c.args in
    slots_suffice (bucket_count a.bounds.now) a.limit (length a.counts.now) (length a.totals.now) (length a.extremes.now) c.cells_suffice-suffice.result c.slots_if-slots.result (few)
    c.cells_suffice-suffice.ensures c.slots_if-slots.ensures in
    let some : 0 < length c.args.values.now = omega (arith, c.if-values-eq0.false) in
    let last : c.args.d.last < 2 ^ 64 = omega (arith, c) in
    let a = c.args in
    let e = sym (ap seating c.in-Ok.is) ∙ c.seat_by_if-found.ensures in
    by-ends (owed a.bounds.now) (true, true) a.limit (lent_map) a.h (first) (suffices) c.takes-value.ensures c.unset_if-unset.ensures e
    c.args.values.now (drop 1 c.args.values.now) (cut-first c.args.values.now nan (some)) _ (c.record_all-got.ensures ∙ sym (stop-on 0 _ _ refl)) (last) _ c.finish_all.ensures
