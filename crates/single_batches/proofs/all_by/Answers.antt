-- `single_batches::all_by` meets its contract. Assumes nothing.
use Prim.Native.Nat.{◌^◌, ◌<◌}
use mathlib.Core.Path.{◌≡◌, refl, sym, ap, ◌∙◌}
use mathlib.Core.List.{List, ◌∷◌}
use native.Mathlib.Omega.{arith}
use lib.ListN.{get_or, drop}
use lib.Ieee.{Float, nan}
use Rattle.directory.specs.View.{stores}
use Rattle.refusals.proofs.Numbers.{number-nonzero}
use Rattle.seats.specs.Seats.{seating}
use Rattle.batches.proofs.Batches.{stop-on}
use Rattle.value_map.specs.Calls.{Held, held}
use Rattle.batches.proofs.Ends.{cut-first, sure-by, by-none, by-takes, by-away, by_fits, by-ends}
use Rattle.singles.proofs.Owes.{owed}
use Rattle.single_batches.proofs.all_by.Goals as goal

pub returns-then-list-eq0 : goal.returns-then-list-eq0
returns-then-list-eq0 c =
    let lent_map : Held (List Float) = let a = c.args in held a.d (stores a.sets.now a.entries.now a.order.now) a.values.now in
    let a = c.args in
    by-none (owed a.aggregation) tt a.limit (lent_map) a.h a.list.now c.if-list-eq0.true

pub seat_by_if-found-requires : goal.seat_by_if-found-requires
seat_by_if-found-requires c k =
    let lent_map : Held (List Float) = let a = c.args in held a.d (stores a.sets.now a.entries.now a.order.now) a.values.now in
    let a = c.args in
    sure-by (owed a.aggregation) tt a.limit (lent_map) _ 0 refl refl a.h (c.requires k)

pub returns-in-Err : goal.returns-in-Err
returns-in-Err c =
    let lent_map : Held (List Float) = let a = c.args in held a.d (stores a.sets.now a.entries.now a.order.now) a.values.now in
    let one : Float = get_or c.args.list.now 0 nan in
    let cut : c.args.list.now ≡ one ∷ drop 1 c.args.list.now = cut-first c.args.list.now nan (omega (arith, c.if-list-eq0.false)) in
    let a = c.args in
    by-away (owed a.aggregation) tt a.limit (lent_map) a.h (one) refl c.takes-value.ensures refl
    (sym (ap seating c.in-Err.is) ∙ c.seat_by_if-found.ensures) (number-nonzero c.in-Err.e) a.list.now (drop 1 a.list.now) (cut)

pub record_all-got-requires : goal.record_all-got-requires
record_all-got-requires c =
    let lent_map : Held (List Float) = let a = c.args in held a.d (stores a.sets.now a.entries.now a.order.now) a.values.now in
    let one : Float = get_or c.args.list.now 0 nan in
    let a = c.args in
    let e = sym (ap seating c.in-Ok.is) ∙ c.seat_by_if-found.ensures in
    let k = by-takes (owed a.aggregation) tt a.limit (lent_map) a.h (one) refl c.takes-value.ensures refl e a.known c.requires refl in
    record { x_in_bounds = k.1; known = k.2 }

pub finish_all-requires : goal.finish_all-requires
finish_all-requires c =
    let lent_map : Held (List Float) = let a = c.args in held a.d (stores a.sets.now a.entries.now a.order.now) a.values.now in
    let one : Float = get_or c.args.list.now 0 nan in
    let cut : c.args.list.now ≡ one ∷ drop 1 c.args.list.now = cut-first c.args.list.now nan (omega (arith, c.if-list-eq0.false)) in
    let a = c.args in
    let e = sym (ap seating c.in-Ok.is) ∙ c.seat_by_if-found.ensures in
    by_fits (owed a.aggregation) tt a.limit (lent_map) a.h (one) refl c.takes-value.ensures refl e
    a.list.now (drop 1 a.list.now) (cut) _ (c.record_all-got.ensures ∙ sym (stop-on 0 _ _ refl))

pub returns : goal.returns
returns c =
    let lent_map : Held (List Float) = let a = c.args in held a.d (stores a.sets.now a.entries.now a.order.now) a.values.now in
    let one : Float = get_or c.args.list.now 0 nan in
    let cut : c.args.list.now ≡ one ∷ drop 1 c.args.list.now = cut-first c.args.list.now nan (omega (arith, c.if-list-eq0.false)) in
    let small : c.args.d.last < 2 ^ 64 = omega (arith, c) in
    let a = c.args in
    let e = sym (ap seating c.in-Ok.is) ∙ c.seat_by_if-found.ensures in
    by-ends (owed a.aggregation) tt a.limit (lent_map) a.h (one) refl c.takes-value.ensures refl e
    a.list.now (drop 1 a.list.now) (cut) _ (c.record_all-got.ensures ∙ sym (stop-on 0 _ _ refl)) (small) _ c.finish_all.ensures
