-- `single_batches::all` meets its contract. Assumes nothing.
use Prim.Native.Nat.{ℕ, ◌^◌, ◌<◌}
use mathlib.Core.Path.{◌≡◌, refl, sym, ap, ◌∙◌}
use mathlib.Core.List.{List, ◌∷◌}
use mathlib.Core.Option.{Option}
use native.Mathlib.Omega.{arith}
use lib.ListN.{get_or, drop}
use lib.Ieee.{Float, nan}
use Rattle.tally.specs.Sets.{Set}
use Rattle.sets.specs.Sorted.{given, filter_of}
use Rattle.directory.specs.View.{stores}
use Rattle.refusals.proofs.Numbers.{number-nonzero}
use Rattle.seats.specs.Seats.{seating}
use Rattle.batches.proofs.Batches.{stop-on}
use Rattle.seats.proofs.Bars.{row-seated}
use Rattle.value_map.specs.Calls.{Held, held}
use Rattle.batches.proofs.Ends.{cut-first, sure_for, for-none, for-takes, for-away, for-fits, for-ends}
use Rattle.singles.proofs.Owes.{owed}
use Rattle.single_batches.proofs.all.Goals as goal

pub returns-then-list-eq0 : goal.returns-then-list-eq0
returns-then-list-eq0 c =
    let filter : Option (List ℕ) = let a = c.args in filter_of a.present a.filter.now in
    let lent_map : Held (List Float) = let a = c.args in held a.d (stores a.sets.now a.entries.now a.order.now) a.values.now in
    let attrs : Set = given c.args.attrs.now in
    let a = c.args in
    for-none (owed a.aggregation) tt a.limit (filter) (lent_map) (attrs) a.list.now c.if-list-eq0.true

pub seat_if-found-requires : goal.seat_if-found-requires
seat_if-found-requires c k =
    let lent_map : Held (List Float) = let a = c.args in held a.d (stores a.sets.now a.entries.now a.order.now) a.values.now in
    let filter : Option (List ℕ) = let a = c.args in filter_of a.present a.filter.now in
    let attrs : Set = given c.args.attrs.now in
    let a = c.args in
    sure_for (owed a.aggregation) tt a.limit (lent_map) _ 0 refl refl (filter) (attrs) (c.requires k)

pub returns-in-Err : goal.returns-in-Err
returns-in-Err c =
    let filter : Option (List ℕ) = let a = c.args in filter_of a.present a.filter.now in
    let lent_map : Held (List Float) = let a = c.args in held a.d (stores a.sets.now a.entries.now a.order.now) a.values.now in
    let attrs : Set = given c.args.attrs.now in
    let one : Float = get_or c.args.list.now 0 nan in
    let cut : c.args.list.now ≡ one ∷ drop 1 c.args.list.now = cut-first c.args.list.now nan (omega (arith, c.if-list-eq0.false)) in
    let a = c.args in
    for-away (owed a.aggregation) tt a.limit (filter) (lent_map) (attrs) c.all_lent.ensures (one) refl c.takes-value.ensures refl
    (sym (ap seating c.in-Err.is) ∙ c.seat_if-found.ensures.value) (number-nonzero c.in-Err.e) a.list.now (drop 1 a.list.now) (cut)

pub record_all-got-requires : goal.record_all-got-requires
record_all-got-requires c =
    let filter : Option (List ℕ) = let a = c.args in filter_of a.present a.filter.now in
    let lent_map : Held (List Float) = let a = c.args in held a.d (stores a.sets.now a.entries.now a.order.now) a.values.now in
    let attrs : Set = given c.args.attrs.now in
    let one : Float = get_or c.args.list.now 0 nan in
    let a = c.args in
    let e = sym (ap seating c.in-Ok.is) ∙ c.seat_if-found.ensures.value in
    let k = for-takes (owed a.aggregation) tt a.limit (filter) (lent_map) (attrs) c.all_lent.ensures (one) refl c.takes-value.ensures refl e a.known c.requires refl in
    record { x_in_bounds = k.1; known = k.2 }

pub finish_all-requires : goal.finish_all-requires
finish_all-requires c =
    let filter : Option (List ℕ) = let a = c.args in filter_of a.present a.filter.now in
    let lent_map : Held (List Float) = let a = c.args in held a.d (stores a.sets.now a.entries.now a.order.now) a.values.now in
    let attrs : Set = given c.args.attrs.now in
    let one : Float = get_or c.args.list.now 0 nan in
    let cut : c.args.list.now ≡ one ∷ drop 1 c.args.list.now = cut-first c.args.list.now nan (omega (arith, c.if-list-eq0.false)) in
    let a = c.args in
    let e = sym (ap seating c.in-Ok.is) ∙ c.seat_if-found.ensures.value in
    for-fits (owed a.aggregation) tt a.limit (filter) (lent_map) (attrs) c.all_lent.ensures (one) refl c.takes-value.ensures refl e
    a.list.now (drop 1 a.list.now) (cut) _ (c.record_all-got.ensures ∙ sym (stop-on 0 _ _ refl))

pub returns : goal.returns
returns c =
    let filter : Option (List ℕ) = let a = c.args in filter_of a.present a.filter.now in
    let lent_map : Held (List Float) = let a = c.args in held a.d (stores a.sets.now a.entries.now a.order.now) a.values.now in
    let attrs : Set = given c.args.attrs.now in
    let one : Float = get_or c.args.list.now 0 nan in
    let cut : c.args.list.now ≡ one ∷ drop 1 c.args.list.now = cut-first c.args.list.now nan (omega (arith, c.if-list-eq0.false)) in
    let small : c.args.d.last < 2 ^ 64 = omega (arith, c) in
    let a = c.args in
    let e = sym (ap seating c.in-Ok.is) ∙ c.seat_if-found.ensures.value in
    for-ends (owed a.aggregation) tt a.limit (filter) (lent_map) (attrs) c.all_lent.ensures (one) refl c.takes-value.ensures refl e
    a.list.now (drop 1 a.list.now) (cut) _ (c.record_all-got.ensures ∙ sym (stop-on 0 _ _ refl))
    (small) _ (row-seated _ _ _ _ _ e _ c.seat_if-found.ensures.row_after) _ c.finish_all.ensures
