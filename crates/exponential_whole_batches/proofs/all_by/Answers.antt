-- `exponential_whole_batches::all_by` meets its contract. Assumes nothing.
use Prim.Native.Nat.{◌^◌, ◌<◌}
use mathlib.Core.Path.{◌≡◌, ap, ◌∙◌, refl, sym}
use mathlib.Core.Bool.{true}
use mathlib.Core.List.{◌∷◌}
use native.Mathlib.Omega.{arith}
use lib.IntN as Whole
use lib.ListN.{length, get_or, drop}
use Rattle.integers.proofs.Range as Range
use Rattle.kinds.specs.Wholes.{wholes}
use Rattle.directory.specs.View.{stores}
use Rattle.refusals.proofs.Numbers.{number-nonzero}
use Rattle.seats.specs.Seats.{seating}
use Rattle.batches.proofs.Batches.{stop-on}
use Rattle.exponential_whole_slots.specs.Cells.{Cells, cells}
use Rattle.value_map.specs.Calls.{Held, held}
use Rattle.whole_map.proofs.ExponentialOwes.{owed}
use Rattle.batches.proofs.Ends.{cut-first, sure-by, by-none, by-takes, by-finite, by-away, by_fits, by-ends}
use Rattle.exponential_whole_batches.proofs.all_by.Goals as goal

pub returns-then-values-eq0 : goal.returns-then-values-eq0
returns-then-values-eq0 c =
    let lent_map : Held Cells = let a = c.args in held a.d (stores a.sets.now a.entries.now a.order.now) (cells a.figures.now a.extremes.now a.pos.now a.neg.now) in
    let a = c.args in
    by-none (owed a.size a.top a.sums) true a.limit (lent_map) a.h a.values.now c.if-values-eq0.true

pub seat_by_if-found-requires : goal.seat_by_if-found-requires
seat_by_if-found-requires c k =
    let lent_map : Held Cells = let a = c.args in held a.d (stores a.sets.now a.entries.now a.order.now) (cells a.figures.now a.extremes.now a.pos.now a.neg.now) in
    let a = c.args in
    sure-by (owed a.size a.top a.sums) true a.limit (lent_map) _ _ (c.slots_of-slots.ensures a.limit) c.unset_of-unset.ensures a.h (c.requires k)

pub returns-in-Err : goal.returns-in-Err
returns-in-Err c =
    let lent_map : Held Cells = let a = c.args in held a.d (stores a.sets.now a.entries.now a.order.now) (cells a.figures.now a.extremes.now a.pos.now a.neg.now) in
    let one : Whole.ℤ = get_or c.args.values.now 0 (Whole.pos 0) in
    let first_taken : c.takes-value.result ≡ wholes.finite (one) = c.takes-value.ensures ∙ ap wholes.finite (Range.held (one) (record { sfits = c.takes-arg-1.given })) in
    let some : 0 < length c.args.values.now = omega (arith, c.if-values-eq0.false) in
    let cut : c.args.values.now ≡ one ∷ drop 1 c.args.values.now = cut-first c.args.values.now (Whole.pos 0) (some) in
    let a = c.args in
    by-away (owed a.size a.top a.sums) true a.limit (lent_map) a.h (one) (c.slots_of-slots.ensures a.limit) (first_taken) c.unset_of-unset.ensures
    (sym (ap seating c.in-Err.is) ∙ c.seat_by_if-found.ensures) (number-nonzero c.in-Err.e) a.values.now (drop 1 a.values.now) (cut)

pub record_all-got-requires : goal.record_all-got-requires
record_all-got-requires c =
    let lent_map : Held Cells = let a = c.args in held a.d (stores a.sets.now a.entries.now a.order.now) (cells a.figures.now a.extremes.now a.pos.now a.neg.now) in
    let one : Whole.ℤ = get_or c.args.values.now 0 (Whole.pos 0) in
    let first_taken : c.takes-value.result ≡ wholes.finite (one) = c.takes-value.ensures ∙ ap wholes.finite (Range.held (one) (record { sfits = c.takes-arg-1.given })) in
    let some : 0 < length c.args.values.now = omega (arith, c.if-values-eq0.false) in
    let a = c.args in
    let e = sym (ap seating c.in-Ok.is) ∙ c.seat_by_if-found.ensures in
    let t = by-takes (owed a.size a.top a.sums) true a.limit (lent_map) a.h (one) (c.slots_of-slots.ensures a.limit) (first_taken) c.unset_of-unset.ensures e a.known c.requires refl in
    record {
      room = t.1;
      set = t.0;
      some = some;
      first = by-finite (owed a.size a.top a.sums) true a.limit (lent_map) a.h (one) (c.slots_of-slots.ensures a.limit) (first_taken) c.unset_of-unset.ensures e refl;
      series = t.2;
    }

pub finish_all-requires : goal.finish_all-requires
finish_all-requires c =
    let lent_map : Held Cells = let a = c.args in held a.d (stores a.sets.now a.entries.now a.order.now) (cells a.figures.now a.extremes.now a.pos.now a.neg.now) in
    let one : Whole.ℤ = get_or c.args.values.now 0 (Whole.pos 0) in
    let first_taken : c.takes-value.result ≡ wholes.finite (one) = c.takes-value.ensures ∙ ap wholes.finite (Range.held (one) (record { sfits = c.takes-arg-1.given })) in
    let some : 0 < length c.args.values.now = omega (arith, c.if-values-eq0.false) in
    let cut : c.args.values.now ≡ one ∷ drop 1 c.args.values.now = cut-first c.args.values.now (Whole.pos 0) (some) in
    let a = c.args in
    let e = sym (ap seating c.in-Ok.is) ∙ c.seat_by_if-found.ensures in
    by_fits (owed a.size a.top a.sums) true a.limit (lent_map) a.h (one) (c.slots_of-slots.ensures a.limit) (first_taken) c.unset_of-unset.ensures e
    a.values.now (drop 1 a.values.now) (cut) _ (c.record_all-got.ensures ∙ sym (stop-on 0 _ _ refl))

pub returns : goal.returns
returns c =
    let lent_map : Held Cells = let a = c.args in held a.d (stores a.sets.now a.entries.now a.order.now) (cells a.figures.now a.extremes.now a.pos.now a.neg.now) in
    let one : Whole.ℤ = get_or c.args.values.now 0 (Whole.pos 0) in
    let first_taken : c.takes-value.result ≡ wholes.finite (one) = c.takes-value.ensures ∙ ap wholes.finite (Range.held (one) (record { sfits = c.takes-arg-1.given })) in
    let some : 0 < length c.args.values.now = omega (arith, c.if-values-eq0.false) in
    let cut : c.args.values.now ≡ one ∷ drop 1 c.args.values.now = cut-first c.args.values.now (Whole.pos 0) (some) in
    let small : c.args.d.last < 2 ^ 64 = omega (arith, c) in
    let a = c.args in
    let e = sym (ap seating c.in-Ok.is) ∙ c.seat_by_if-found.ensures in
    by-ends (owed a.size a.top a.sums) true a.limit (lent_map) a.h (one) (c.slots_of-slots.ensures a.limit) (first_taken) c.unset_of-unset.ensures e
    a.values.now (drop 1 a.values.now) (cut) _ (c.record_all-got.ensures ∙ sym (stop-on 0 _ _ refl))
    (small) _ c.finish_all.ensures
