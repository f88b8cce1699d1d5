-- `singles::walk::list` meets its contract. Assumes nothing.
use Prim.Native.Nat.{◌≤◌}
use mathlib.Core.List.{List, []}
use native.Mathlib.Omega.{arith}
use lib.Ieee.{Float}
use Rattle.value_map.specs.Calls.{Held}
use Rattle.listing.specs.Listed.{Output}
use Rattle.collecting.specs.Lister.{Lister}
use Rattle.collecting.specs.Slots.{walked}
use Rattle.collecting.proofs.Turns.{Seen}
use Rattle.collecting.proofs.Loops.{within, found-used, list-start, list-end, slot-free, list-next}
use Rattle.singles.specs.Stores.{single_store}
use Rattle.singles.specs.Points.{as_words, output, single_lister}
use Rattle.singles.specs.Inner.{place}
use Rattle.singles.specs.declared.Aggregation.TheVariants.{Sum}
use Rattle.singles.proofs.Alike.{words_long}
use Rattle.singles.proofs.walk.list.Goals as goal

abbrev L : Lister (single_store Sum)
L = single_lister Sum

pub loop-i-init : goal.loop-i-init
loop-i-init c =
    let map-c : Held (List Float) = let a = c.args in walked a.used a.sets.now a.entries.now a.order.now a.values.now in
    let out-c : Output = output c.args.out_sets.now c.args.out_values.now in
    list-start L tt c.args.cumulative map-c out-c

pub slot_at-x-requires : goal.slot_at-x-requires
slot_at-x-requires c = omega (arith, c.loop-i-test.true, c.requires.walk.order)

pub is_updated-updated-requires : goal.is_updated-updated-requires
is_updated-updated-requires c =
    let map-c : Held (List Float) = let a = c.args in walked a.used a.sets.now a.entries.now a.order.now a.values.now in
    let in_use : c.slot_at-x.result ≤ c.args.used =
    found-used (single_store Sum) map-c c.requires.walk c.loop-i.i c.slot_at-x.result
    (within _ _ c.loop-i-test.true) c.slot_at-x.ensures in
    c.requires.walk.entries c.slot_at-x.result (in_use)

pub row_at-row-requires : goal.row_at-row-requires
row_at-row-requires c =
    let map-c : Held (List Float) = let a = c.args in walked a.used a.sets.now a.entries.now a.order.now a.values.now in
    let in_use : c.slot_at-x.result ≤ c.args.used =
    found-used (single_store Sum) map-c c.requires.walk c.loop-i.i c.slot_at-x.result
    (within _ _ c.loop-i-test.true) c.slot_at-x.ensures in
    c.requires.sets c.slot_at-x.result (in_use)

pub put-at-requires : goal.put-at-requires
put-at-requires c =
    let map-c : Held (List Float) = let a = c.args in walked a.used a.sets.now a.entries.now a.order.now a.values.now in
    let out-c : Output = output c.args.out_sets.now c.args.out_values.now in
    let out_now : Output = record { sets = c.loop-i.out_sets; words = as_words c.loop-i.out_values; pos = []; neg = [] } in
    let seen : Seen L tt c.args.cumulative map-c
    c.loop-i.i c.slot_at-x.result c.is_updated-updated.result c.is_due-due.result =
    record {
      place = within _ _ c.loop-i-test.true;
      slot = c.slot_at-x.ensures;
      updated-is = c.is_updated-updated.ensures;
      asked_is = c.is_due-due.ensures;
    } in
    let in_use : c.slot_at-x.result ≤ c.args.used =
    found-used (single_store Sum) map-c c.requires.walk c.loop-i.i c.slot_at-x.result
    (within _ _ c.loop-i-test.true) c.slot_at-x.ensures in
    let l = c.loop-i in
    let o = out_now in
    let free = slot-free L tt c.args.cumulative map-c out-c c.requires l.i _ _ _ (seen) (place l.at) o l.invariant in record { x_in_bounds = c.requires.walk.room c.slot_at-x.result (in_use); at_in_bounds = λ e. ((free e).sets, omega (arith, (free e).words, words_long l.out_values)) }

pub overflow_add-i-end : goal.overflow_add-i-end
overflow_add-i-end c = omega (arith, c.requires.walk.most)

pub loop-i-preserved : goal.loop-i-preserved
loop-i-preserved c =
    let map-c : Held (List Float) = let a = c.args in walked a.used a.sets.now a.entries.now a.order.now a.values.now in
    let out-c : Output = output c.args.out_sets.now c.args.out_values.now in
    let seen : Seen L tt c.args.cumulative map-c
    c.loop-i.i c.slot_at-x.result c.is_updated-updated.result c.is_due-due.result =
    record {
      place = within _ _ c.loop-i-test.true;
      slot = c.slot_at-x.ensures;
      updated-is = c.is_updated-updated.ensures;
      asked_is = c.is_due-due.ensures;
    } in
    let out_now : Output = record { sets = c.loop-i.out_sets; words = as_words c.loop-i.out_values; pos = []; neg = [] } in
    let l = c.loop-i in
    list-next L tt c.args.cumulative map-c out-c c.requires l.i _ _ _ (seen)
    (place l.at) (out_now) l.invariant c.row_at-row.result c.row_at-row.ensures (place c.put-at.result) _ c.put-at.ensures

pub returns : goal.returns
returns c =
    let map-c : Held (List Float) = let a = c.args in walked a.used a.sets.now a.entries.now a.order.now a.values.now in
    let out-c : Output = output c.args.out_sets.now c.args.out_values.now in
    let out_now : Output = record { sets = c.loop-i.out_sets; words = as_words c.loop-i.out_values; pos = []; neg = [] } in
    let l = c.loop-i in
    list-end L tt c.args.cumulative map-c out-c l.i (place l.at) (out_now) l.invariant
    (omega (arith, c.loop-i-test.false))
