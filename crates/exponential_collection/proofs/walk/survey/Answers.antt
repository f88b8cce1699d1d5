-- `exponential_collection::walk::survey` meets its contract. Assumes nothing.
use Prim.Native.Nat.{◌≤◌}
use mathlib.Core.Path.{sym, ap, subst, ◌∙◌}
use mathlib.Core.Bool.{Bool, true}
use mathlib.Core.List.{[]}
use native.Mathlib.Omega.{arith}
use Rattle.exponential_slots.specs.Cells.{Cells, cells}
use Rattle.value_map.specs.Calls.{Held}
use Rattle.value_map.specs.Exponential.{exponential_store}
use Rattle.collecting.specs.Lister.{Lister}
use Rattle.collecting.specs.Slots.{sound_of, survey_of, Few, walked}
use Rattle.collecting.proofs.Turns.{Seen}
use Rattle.collecting.proofs.Loops.{within, found-used, survey-start, survey-few, survey-known, sums-next, sums-stop, survey-end}
use Rattle.exponential_collection.specs.Points.{exponential_lister}
use Rattle.exponential_collection.proofs.walk.survey.Goals as goal

abbrev on : Bool × Bool
on = (true, true)

pub loop-i-init : goal.loop-i-init
loop-i-init c =
    let L-c : Lister (exponential_store c.args.s.size c.args.s.top) = exponential_lister c.args.s.size c.args.s.top in
    let map-c : Held Cells = let a = c.args in walked a.used [] a.entries.now a.order.now (cells a.figures.now a.extremes.now a.pos.now a.neg.now) in
    survey-start L-c on c.args.cumulative map-c

pub slot_at-x-requires : goal.slot_at-x-requires
slot_at-x-requires c = omega (arith, c.loop-i-test.true, c.requires.walk.order)

pub is_updated-updated-requires : goal.is_updated-updated-requires
is_updated-updated-requires c =
    let map-c : Held Cells = let a = c.args in walked a.used [] a.entries.now a.order.now (cells a.figures.now a.extremes.now a.pos.now a.neg.now) in
    let in_use : c.slot_at-x.result ≤ c.args.used = found-used (exponential_store c.args.s.size c.args.s.top) map-c c.requires.walk c.loop-i.i c.slot_at-x.result (within _ _ c.loop-i-test.true) c.slot_at-x.ensures in
    c.requires.walk.entries c.slot_at-x.result (in_use)

pub survey-next-requires : goal.survey-next-requires
survey-next-requires c =
    let L-c : Lister (exponential_store c.args.s.size c.args.s.top) = exponential_lister c.args.s.size c.args.s.top in
    let map-c : Held Cells = let a = c.args in walked a.used [] a.entries.now a.order.now (cells a.figures.now a.extremes.now a.pos.now a.neg.now) in
    let in_use : c.slot_at-x.result ≤ c.args.used = found-used (exponential_store c.args.s.size c.args.s.top) map-c c.requires.walk c.loop-i.i c.slot_at-x.result (within _ _ c.loop-i-test.true) c.slot_at-x.ensures in
    let seen : Seen L-c (true, true) c.args.cumulative map-c
    c.loop-i.i c.slot_at-x.result c.is_updated-updated.result c.is_due-due.result =
    record {
      place = within _ _ c.loop-i-test.true;
      slot = c.slot_at-x.ensures;
      updated-is = c.is_updated-updated.ensures;
      asked_is = c.is_due-due.ensures;
    } in
    let l = c.loop-i in record {
      top_value = (c.requires.walk.set, c.requires.walk.room c.slot_at-x.result (in_use));
      few = (
        subst Few (sym c.of-so_far.ensures)
            (survey-few L-c on c.args.cumulative map-c c.requires.walk l.i (sound_of l.found) l.invariant (within _ _ c.loop-i-test.true)),
        survey-known L-c on c.args.cumulative map-c c.requires.walk c.args.known c.requires.all_known l.i _ _ _ (seen),
      );
    }

pub returns-in_err-found : goal.returns-in_err-found
returns-in_err-found c =
    let L-c : Lister (exponential_store c.args.s.size c.args.s.top) = exponential_lister c.args.s.size c.args.s.top in
    let map-c : Held Cells = let a = c.args in walked a.used [] a.entries.now a.order.now (cells a.figures.now a.extremes.now a.pos.now a.neg.now) in
    let seen : Seen L-c (true, true) c.args.cumulative map-c
    c.loop-i.i c.slot_at-x.result c.is_updated-updated.result c.is_due-due.result =
    record {
      place = within _ _ c.loop-i-test.true;
      slot = c.slot_at-x.ensures;
      updated-is = c.is_updated-updated.ensures;
      asked_is = c.is_due-due.ensures;
    } in
    let l = c.loop-i in
    ap survey_of c.from_residual.ensures
    ∙ sums-stop L-c on c.args.cumulative map-c l.i _ _ _ (seen)
    (sound_of l.found) c.of-so_far.result c.survey-next.result l.invariant c.of-so_far.ensures c.survey-next.ensures.value c.in_err-found.ensures.sound

pub overflow_add-i-end : goal.overflow_add-i-end
overflow_add-i-end c = omega (arith, c.requires.walk.most)

pub loop-i-preserved : goal.loop-i-preserved
loop-i-preserved c =
    let L-c : Lister (exponential_store c.args.s.size c.args.s.top) = exponential_lister c.args.s.size c.args.s.top in
    let map-c : Held Cells = let a = c.args in walked a.used [] a.entries.now a.order.now (cells a.figures.now a.extremes.now a.pos.now a.neg.now) in
    let seen : Seen L-c (true, true) c.args.cumulative map-c
    c.loop-i.i c.slot_at-x.result c.is_updated-updated.result c.is_due-due.result =
    record {
      place = within _ _ c.loop-i-test.true;
      slot = c.slot_at-x.ensures;
      updated-is = c.is_updated-updated.ensures;
      asked_is = c.is_due-due.ensures;
    } in
    let l = c.loop-i in
    sums-next L-c on c.args.cumulative map-c l.i _ _ _ (seen)
    (sound_of l.found) c.of-so_far.result c.survey-next.result l.invariant c.of-so_far.ensures c.survey-next.ensures.value
    c.in_ok-found.found c.in_ok-found.ensures.sound c.in_ok-found.ensures.unsound c.survey-next.ensures.more

pub returns : goal.returns
returns c =
    let L-c : Lister (exponential_store c.args.s.size c.args.s.top) = exponential_lister c.args.s.size c.args.s.top in
    let map-c : Held Cells = let a = c.args in walked a.used [] a.entries.now a.order.now (cells a.figures.now a.extremes.now a.pos.now a.neg.now) in
    let l = c.loop-i in
    survey-end L-c on c.args.cumulative map-c l.i (sound_of l.found) l.invariant (omega (arith, c.loop-i-test.false))
