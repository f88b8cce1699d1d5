-- `exponential_batches::all` meets its contract. Assumes nothing.
-- ---- before the seat
-- ---- at the seat
use Prim.Native.Nat.{ℕ, ◌^◌, ◌<◌}
use mathlib.Core.Bool.{true}
use mathlib.Core.Path.{refl, sym, ap, ◌∙◌}
use mathlib.Core.List.{List}
use mathlib.Core.Option.{Option}
use native.Mathlib.Omega.{arith}
use lib.ListN.{length, get_or, drop}
use lib.Ieee.{Float, nan}
use Rattle.tally.specs.Sets.{Set}
use Rattle.sets.specs.Sorted.{given, filter_of}
use Rattle.seats.proofs.Bars.{row-seated}
use Rattle.directory.specs.View.{stores}
use Rattle.refusals.specs.Refusals.{code}
use Rattle.refusals.proofs.Numbers.{number-nonzero}
use Rattle.seats.specs.Seats.{seating}
use Rattle.batches.proofs.Batches.{stop-on}
use Rattle.exponential_slots.specs.Cells.{Cells, cells}
use Rattle.value_map.specs.Calls.{Held, held}
use Rattle.value_map.proofs.ExponentialOwes.{owed}
use Rattle.batches.proofs.Ends.{cut-first, sure_for, for-none, for-takes, for-finite, for-away, for-fits, for-ends}
use Rattle.exponential_batches.proofs.all.Goals as goal

pub returns-then-values-eq0 : goal.returns-then-values-eq0
returns-then-values-eq0 c =
    let filter : Option (List ℕ) = filter_of c.args.present c.args.filter.now in
    let lent_map : Held Cells = let a = c.args in held a.d (stores a.sets.now a.entries.now a.order.now) (cells a.figures.now a.extremes.now a.pos.now a.neg.now) in
    let attributes : Set = given c.args.attrs.now in
    let a = c.args in
    for-none (owed a.size a.top) (true, true) a.limit (filter) (lent_map) (attributes) c.args.values.now c.if-values-eq0.true

pub seat_if-found-requires : goal.seat_if-found-requires
seat_if-found-requires c k =
    let lent_map : Held Cells = let a = c.args in held a.d (stores a.sets.now a.entries.now a.order.now) (cells a.figures.now a.extremes.now a.pos.now a.neg.now) in
    let filter : Option (List ℕ) = filter_of c.args.present c.args.filter.now in
    let attributes : Set = given c.args.attrs.now in
    let a = c.args in
    sure_for (owed a.size a.top) (true, true) a.limit (lent_map) c.slots_of-slots.result (code c.unset_of-unset.result) c.slots_of-slots.ensures c.unset_of-unset.ensures (filter) (attributes) (c.requires k)

pub returns-in-Err : goal.returns-in-Err
returns-in-Err c =
    let filter : Option (List ℕ) = filter_of c.args.present c.args.filter.now in
    let lent_map : Held Cells = let a = c.args in held a.d (stores a.sets.now a.entries.now a.order.now) (cells a.figures.now a.extremes.now a.pos.now a.neg.now) in
    let attributes : Set = given c.args.attrs.now in
    let first : Float = get_or c.args.values.now 0 nan in
    let some : 0 < length c.args.values.now = omega (arith, c.if-values-eq0.false) in
    let a = c.args in
    for-away (owed a.size a.top) (true, true) a.limit (filter) (lent_map) (attributes) c.all_lent.ensures (first) c.slots_of-slots.ensures c.takes-value.ensures c.unset_of-unset.ensures
    (sym (ap seating c.in-Err.is) ∙ c.seat_if-found.ensures.value) (number-nonzero c.in-Err.e) c.args.values.now (drop 1 c.args.values.now) (cut-first c.args.values.now nan (some))

pub record_all-got-requires : goal.record_all-got-requires
record_all-got-requires c =
    let filter : Option (List ℕ) = filter_of c.args.present c.args.filter.now in
    let lent_map : Held Cells = let a = c.args in held a.d (stores a.sets.now a.entries.now a.order.now) (cells a.figures.now a.extremes.now a.pos.now a.neg.now) in
    let attributes : Set = given c.args.attrs.now in
    let first : Float = get_or c.args.values.now 0 nan in
    let some : 0 < length c.args.values.now = omega (arith, c.if-values-eq0.false) in
    let a = c.args in
    let e = sym (ap seating c.in-Ok.is) ∙ c.seat_if-found.ensures.value in
    let k = for-takes (owed a.size a.top) (true, true) a.limit (filter) (lent_map) (attributes) c.all_lent.ensures (first) c.slots_of-slots.ensures c.takes-value.ensures c.unset_of-unset.ensures e a.known c.requires refl in
    record {
      room = k.1;
      set = k.0;
      some = some;
      first = for-finite (owed a.size a.top) (true, true) a.limit (filter) (lent_map) (attributes) c.all_lent.ensures (first) c.slots_of-slots.ensures c.takes-value.ensures c.unset_of-unset.ensures e refl;
      series = k.2;
    }

pub finish_all-requires : goal.finish_all-requires
finish_all-requires c k =
    let filter : Option (List ℕ) = filter_of c.args.present c.args.filter.now in
    let lent_map : Held Cells = let a = c.args in held a.d (stores a.sets.now a.entries.now a.order.now) (cells a.figures.now a.extremes.now a.pos.now a.neg.now) in
    let attributes : Set = given c.args.attrs.now in
    let first : Float = get_or c.args.values.now 0 nan in
    let some : 0 < length c.args.values.now = omega (arith, c.if-values-eq0.false) in
    let a = c.args in
    let e = sym (ap seating c.in-Ok.is) ∙ c.seat_if-found.ensures.value in
    for-fits (owed a.size a.top) (true, true) a.limit (filter) (lent_map) (attributes) c.all_lent.ensures (first) c.slots_of-slots.ensures c.takes-value.ensures c.unset_of-unset.ensures e
    c.args.values.now (drop 1 c.args.values.now) (cut-first c.args.values.now nan (some)) _ (c.record_all-got.ensures ∙ sym (stop-on 0 _ _ refl)) k

pub returns : goal.returns
returns c =
    let filter : Option (List ℕ) = filter_of c.args.present c.args.filter.now in
    let lent_map : Held Cells = let a = c.args in held a.d (stores a.sets.now a.entries.now a.order.now) (cells a.figures.now a.extremes.now a.pos.now a.neg.now) in
    let attributes : Set = given c.args.attrs.now in
    let first : Float = get_or c.args.values.now 0 nan in
    let some : 0 < length c.args.values.now = omega (arith, c.if-values-eq0.false) in
    let last : c.args.d.last < 2 ^ 64 = omega (arith, c) in
    let a = c.args in
    let e = sym (ap seating c.in-Ok.is) ∙ c.seat_if-found.ensures.value in
    for-ends (owed a.size a.top) (true, true) a.limit (filter) (lent_map) (attributes) c.all_lent.ensures (first) c.slots_of-slots.ensures c.takes-value.ensures c.unset_of-unset.ensures e
    c.args.values.now (drop 1 c.args.values.now) (cut-first c.args.values.now nan (some)) _ (c.record_all-got.ensures ∙ sym (stop-on 0 _ _ refl)) (last) _ (row-seated _ _ _ _ _ e _ c.seat_if-found.ensures.row_after) _ c.finish_all.ensures
