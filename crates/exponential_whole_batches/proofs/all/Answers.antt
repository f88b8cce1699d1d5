-- `exponential_whole_batches::all` meets its contract. Assumes nothing.
use Prim.Native.Nat.{ℕ, ◌^◌, ◌<◌}
use mathlib.Core.Path.{◌≡◌, ap, ◌∙◌, refl, sym}
use mathlib.Core.Bool.{true}
use mathlib.Core.List.{List, ◌∷◌}
use native.Mathlib.Omega.{arith}
use lib.IntN as Whole
use lib.ListN.{length, get_or, drop}
use Rattle.integers.proofs.Range as Range
use Rattle.kinds.specs.Wholes.{wholes}
use mathlib.Core.Option.{Option}
use Rattle.tally.specs.Sets.{Set}
use Rattle.sets.specs.Sorted.{given, filter_of}
use Rattle.seats.proofs.Bars.{row-seated}
use Rattle.directory.specs.View.{stores}
use Rattle.refusals.proofs.Numbers.{number-nonzero}
use Rattle.seats.specs.Seats.{seating}
use Rattle.batches.proofs.Batches.{stop-on}
use Rattle.exponential_whole_slots.specs.Cells.{Cells, cells}
use Rattle.value_map.specs.Calls.{Held, held}
use Rattle.whole_map.proofs.ExponentialOwes.{owed}
use Rattle.batches.proofs.Ends.{cut-first, sure_for, for-none, for-takes, for-finite, for-away, for-fits, for-ends}
use Rattle.exponential_whole_batches.proofs.all.Goals as goal

pub returns-then-values-eq0 : goal.returns-then-values-eq0
returns-then-values-eq0 c =
    let filter : Option (List ℕ) = let a = c.args in filter_of a.present a.filter.now in
    let lent_map : Held Cells = let a = c.args in held a.d (stores a.sets.now a.entries.now a.order.now) (cells a.figures.now a.extremes.now a.pos.now a.neg.now) in
    let attrs : Set = given c.args.attrs.now in
    let a = c.args in
    for-none (owed a.size a.top a.sums) true a.limit (filter) (lent_map) (attrs) a.values.now c.if-values-eq0.true

pub seat_if-found-requires : goal.seat_if-found-requires
seat_if-found-requires c k =
    let lent_map : Held Cells = let a = c.args in held a.d (stores a.sets.now a.entries.now a.order.now) (cells a.figures.now a.extremes.now a.pos.now a.neg.now) in
    let filter : Option (List ℕ) = let a = c.args in filter_of a.present a.filter.now in
    let attrs : Set = given c.args.attrs.now in
    let a = c.args in
    sure_for (owed a.size a.top a.sums) true a.limit (lent_map) _ _ (c.slots_of-slots.ensures a.limit) c.unset_of-unset.ensures (filter) (attrs) (c.requires k)

pub returns-in-Err : goal.returns-in-Err
returns-in-Err c =
    let filter : Option (List ℕ) = let a = c.args in filter_of a.present a.filter.now in
    let lent_map : Held Cells = let a = c.args in held a.d (stores a.sets.now a.entries.now a.order.now) (cells a.figures.now a.extremes.now a.pos.now a.neg.now) in
    let attrs : Set = given c.args.attrs.now in
    let one : Whole.ℤ = get_or c.args.values.now 0 (Whole.pos 0) in
    let first_taken : c.takes-value.result ≡ wholes.finite (one) = c.takes-value.ensures ∙ ap wholes.finite (Range.held (one) (record { sfits = c.takes-arg-1.given })) in
    let some : 0 < length c.args.values.now = omega (arith, c.if-values-eq0.false) in
    let cut : c.args.values.now ≡ one ∷ drop 1 c.args.values.now = cut-first c.args.values.now (Whole.pos 0) (some) in
    let a = c.args in
    for-away (owed a.size a.top a.sums) true a.limit (filter) (lent_map) (attrs) c.all_lent.ensures (one) (c.slots_of-slots.ensures a.limit) (first_taken) c.unset_of-unset.ensures
    (sym (ap seating c.in-Err.is) ∙ c.seat_if-found.ensures.value) (number-nonzero c.in-Err.e) a.values.now (drop 1 a.values.now) (cut)

pub record_all-got-requires : goal.record_all-got-requires
record_all-got-requires c =
    let lent_map : Held Cells = let a = c.args in held a.d (stores a.sets.now a.entries.now a.order.now) (cells a.figures.now a.extremes.now a.pos.now a.neg.now) in
    let filter : Option (List ℕ) = let a = c.args in filter_of a.present a.filter.now in
    let attrs : Set = given c.args.attrs.now in
    let one : Whole.ℤ = get_or c.args.values.now 0 (Whole.pos 0) in
    let first_taken : c.takes-value.result ≡ wholes.finite (one) = c.takes-value.ensures ∙ ap wholes.finite (Range.held (one) (record { sfits = c.takes-arg-1.given })) in
    let some : 0 < length c.args.values.now = omega (arith, c.if-values-eq0.false) in
    let a = c.args in
    let e = sym (ap seating c.in-Ok.is) ∙ c.seat_if-found.ensures.value in
    let t = for-takes (owed a.size a.top a.sums) true a.limit (filter) (lent_map) (attrs) c.all_lent.ensures (one) (c.slots_of-slots.ensures a.limit) (first_taken) c.unset_of-unset.ensures e a.known c.requires refl in
    record {
      room = t.1;
      set = t.0;
      some = some;
      first = for-finite (owed a.size a.top a.sums) true a.limit (filter) (lent_map) (attrs) c.all_lent.ensures (one) (c.slots_of-slots.ensures a.limit) (first_taken) c.unset_of-unset.ensures e refl;
      series = t.2;
    }

pub finish_all-requires : goal.finish_all-requires
finish_all-requires c =
    let filter : Option (List ℕ) = let a = c.args in filter_of a.present a.filter.now in
    let lent_map : Held Cells = let a = c.args in held a.d (stores a.sets.now a.entries.now a.order.now) (cells a.figures.now a.extremes.now a.pos.now a.neg.now) in
    let attrs : Set = given c.args.attrs.now in
    let one : Whole.ℤ = get_or c.args.values.now 0 (Whole.pos 0) in
    let first_taken : c.takes-value.result ≡ wholes.finite (one) = c.takes-value.ensures ∙ ap wholes.finite (Range.held (one) (record { sfits = c.takes-arg-1.given })) in
    let some : 0 < length c.args.values.now = omega (arith, c.if-values-eq0.false) in
    let cut : c.args.values.now ≡ one ∷ drop 1 c.args.values.now = cut-first c.args.values.now (Whole.pos 0) (some) in
    let a = c.args in
    let e = sym (ap seating c.in-Ok.is) ∙ c.seat_if-found.ensures.value in
    for-fits (owed a.size a.top a.sums) true a.limit (filter) (lent_map) (attrs) c.all_lent.ensures (one) (c.slots_of-slots.ensures a.limit) (first_taken) c.unset_of-unset.ensures e
    a.values.now (drop 1 a.values.now) (cut) _ (c.record_all-got.ensures ∙ sym (stop-on 0 _ _ refl))

pub returns : goal.returns
returns c =
    let filter : Option (List ℕ) = let a = c.args in filter_of a.present a.filter.now in
    let lent_map : Held Cells = let a = c.args in held a.d (stores a.sets.now a.entries.now a.order.now) (cells a.figures.now a.extremes.now a.pos.now a.neg.now) in
    let attrs : Set = given c.args.attrs.now in
    let one : Whole.ℤ = get_or c.args.values.now 0 (Whole.pos 0) in
    let first_taken : c.takes-value.result ≡ wholes.finite (one) = c.takes-value.ensures ∙ ap wholes.finite (Range.held (one) (record { sfits = c.takes-arg-1.given })) in
    let some : 0 < length c.args.values.now = omega (arith, c.if-values-eq0.false) in
    let cut : c.args.values.now ≡ one ∷ drop 1 c.args.values.now = cut-first c.args.values.now (Whole.pos 0) (some) in
    let small : c.args.d.last < 2 ^ 64 = omega (arith, c) in
    let a = c.args in
    let e = sym (ap seating c.in-Ok.is) ∙ c.seat_if-found.ensures.value in
    for-ends (owed a.size a.top a.sums) true a.limit (filter) (lent_map) (attrs) c.all_lent.ensures (one) (c.slots_of-slots.ensures a.limit) (first_taken) c.unset_of-unset.ensures e
    a.values.now (drop 1 a.values.now) (cut) _ (c.record_all-got.ensures ∙ sym (stop-on 0 _ _ refl))
    (small) _ (row-seated _ _ _ _ _ e _ c.seat_if-found.ensures.row_after) _ c.finish_all.ensures
