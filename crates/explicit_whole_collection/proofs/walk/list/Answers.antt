-- `explicit_whole_collection::walk::list` meets its contract. Assumes nothing.
use Prim.Native.Nat.{◌≤◌}
use native.Mathlib.Omega.{arith}
use Rattle.explicit_whole_slots.specs.Cells.{Cells, cells}
use Rattle.value_map.specs.Calls.{Held}
use Rattle.whole_map.specs.Explicit.{explicit_wholes}
use Rattle.listing.specs.Listed.{Output, output}
use Rattle.collecting.specs.Lister.{Lister}
use Rattle.collecting.specs.Slots.{walked}
use Rattle.collecting.proofs.Turns.{Seen}
use Rattle.collecting.proofs.Loops.{within, found-used, list-start, list-end, slot-sound, slot-free, list-next}
use Rattle.explicit_whole_collection.specs.Points.{explicit_whole_lister}
use Rattle.explicit_whole_collection.proofs.walk.list.Goals as goal

pub loop-i-init : goal.loop-i-init
loop-i-init c =
    let L-c : Lister (explicit_wholes c.args.bounds.now c.args.sums) = explicit_whole_lister c.args.bounds.now c.args.sums in
    let map-c : Held Cells = let a = c.args in walked a.used a.sets.now a.entries.now a.order.now (cells a.totals.now a.extremes.now a.counts.now) in
    let out-c : Output = let a = c.args in output a.out_sets.now a.out_words.now a.out_pos.now a.out_neg.now in
    let a = c.args in
    list-start L-c a.show a.cumulative map-c out-c

pub slot_at-x-requires : goal.slot_at-x-requires
slot_at-x-requires c = omega (arith, c.loop-i-test.true, c.requires.walk.order)

pub is_updated-updated-requires : goal.is_updated-updated-requires
is_updated-updated-requires c =
    let map-c : Held Cells = let a = c.args in walked a.used a.sets.now a.entries.now a.order.now (cells a.totals.now a.extremes.now a.counts.now) in
    let in_use : c.slot_at-x.result ≤ c.args.used = found-used (explicit_wholes c.args.bounds.now c.args.sums) map-c c.requires.walk c.loop-i.i c.slot_at-x.result (within _ _ c.loop-i-test.true) c.slot_at-x.ensures in
    c.requires.walk.entries c.slot_at-x.result (in_use)

pub row_at-row-requires : goal.row_at-row-requires
row_at-row-requires c =
    let map-c : Held Cells = let a = c.args in walked a.used a.sets.now a.entries.now a.order.now (cells a.totals.now a.extremes.now a.counts.now) in
    let in_use : c.slot_at-x.result ≤ c.args.used = found-used (explicit_wholes c.args.bounds.now c.args.sums) map-c c.requires.walk c.loop-i.i c.slot_at-x.result (within _ _ c.loop-i-test.true) c.slot_at-x.ensures in
    c.requires.sets c.slot_at-x.result (in_use)

pub put-at-requires : goal.put-at-requires
put-at-requires c =
    let L-c : Lister (explicit_wholes c.args.bounds.now c.args.sums) = explicit_whole_lister c.args.bounds.now c.args.sums in
    let map-c : Held Cells = let a = c.args in walked a.used a.sets.now a.entries.now a.order.now (cells a.totals.now a.extremes.now a.counts.now) in
    let out-c : Output = let a = c.args in output a.out_sets.now a.out_words.now a.out_pos.now a.out_neg.now in
    let seen : Seen L-c c.args.show c.args.cumulative map-c
    c.loop-i.i c.slot_at-x.result c.is_updated-updated.result c.is_due-due.result =
    record {
      place = within _ _ c.loop-i-test.true;
      slot = c.slot_at-x.ensures;
      updated-is = c.is_updated-updated.ensures;
      asked_is = c.is_due-due.ensures;
    } in
    let out_now : Output = record { sets = c.loop-i.out_sets; words = c.loop-i.out_words; pos = c.loop-i.out_pos; neg = c.loop-i.out_neg } in
    let a = c.args in
    let l = c.loop-i in record { sound = slot-sound L-c a.show a.cumulative map-c out-c c.requires l.i _ _ _ (seen); free = slot-free L-c a.show a.cumulative map-c out-c c.requires l.i _ _ _ (seen) l.at (out_now) l.invariant }

pub overflow_add-i-end : goal.overflow_add-i-end
overflow_add-i-end c = omega (arith, c.requires.walk.most)

pub loop-i-preserved : goal.loop-i-preserved
loop-i-preserved c =
    let L-c : Lister (explicit_wholes c.args.bounds.now c.args.sums) = explicit_whole_lister c.args.bounds.now c.args.sums in
    let map-c : Held Cells = let a = c.args in walked a.used a.sets.now a.entries.now a.order.now (cells a.totals.now a.extremes.now a.counts.now) in
    let out-c : Output = let a = c.args in output a.out_sets.now a.out_words.now a.out_pos.now a.out_neg.now in
    let seen : Seen L-c c.args.show c.args.cumulative map-c
    c.loop-i.i c.slot_at-x.result c.is_updated-updated.result c.is_due-due.result =
    record {
      place = within _ _ c.loop-i-test.true;
      slot = c.slot_at-x.ensures;
      updated-is = c.is_updated-updated.ensures;
      asked_is = c.is_due-due.ensures;
    } in
    let out_now : Output = record { sets = c.loop-i.out_sets; words = c.loop-i.out_words; pos = c.loop-i.out_pos; neg = c.loop-i.out_neg } in
    let a = c.args in
    let l = c.loop-i in
    list-next L-c a.show a.cumulative map-c out-c c.requires l.i _ _ _ (seen)
    l.at (out_now) l.invariant c.row_at-row.result c.row_at-row.ensures c.put-at.result _ c.put-at.ensures

pub returns : goal.returns
returns c =
    let L-c : Lister (explicit_wholes c.args.bounds.now c.args.sums) = explicit_whole_lister c.args.bounds.now c.args.sums in
    let map-c : Held Cells = let a = c.args in walked a.used a.sets.now a.entries.now a.order.now (cells a.totals.now a.extremes.now a.counts.now) in
    let out-c : Output = let a = c.args in output a.out_sets.now a.out_words.now a.out_pos.now a.out_neg.now in
    let out_now : Output = record { sets = c.loop-i.out_sets; words = c.loop-i.out_words; pos = c.loop-i.out_pos; neg = c.loop-i.out_neg } in
    let a = c.args in
    let l = c.loop-i in
    list-end L-c a.show a.cumulative map-c out-c l.i l.at (out_now) l.invariant (omega (arith, c.loop-i-test.false))
