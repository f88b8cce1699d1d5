-- `sheet_writing::put::put_sheet` meets its contract. Assumes nothing.
use mathlib.Core.Path.{◌≡◌, sym, ◌∙◌}
use native.Mathlib.Omega.{arith}
use Rattle.std.specs.Prelude.{Some}
use Rattle.pooling.specs.Lists.{Source, source, whole_at}
use Rattle.pooling.proofs.Whole.{whole-lies}
use Rattle.sheet_writing.specs.Inner.{origin}
use Rattle.sheet_writing.proofs.Steps.{step_spanned}
use Rattle.sheet_writing.proofs.Walk.{Left, left-start, turn-none, turn_step, turn-row, turn-room, turn-left, turn-put, put-start, sheet-put}
use Rattle.sheet_writing.proofs.put.put_sheet.Goals as goal

pub info_of-info-requires : goal.info_of-info-requires
info_of-info-requires c =
    let list : Source = let a = c.args in source a.sets.now a.words.now a.pos.now a.neg.now a.bounds.now in
    let first : Left c.args.n 0 c.args.records origin 3 list = left-start c.args.h c.args.n c.args.records list c.args.s.now c.requires in
    omega (arith, first.most)

pub put_header-requires : goal.put_header-requires
put_header-requires c =
    let list : Source = let a = c.args in source a.sets.now a.words.now a.pos.now a.neg.now a.bounds.now in
    let first : Left c.args.n 0 c.args.records origin 3 list = left-start c.args.h c.args.n c.args.records list c.args.s.now c.requires in
    record { room = record { small = c.info_of-info.ensures.1; few = omega (arith, first.few); long = c.requires.room }; n_nonzero = omega (arith, c.requires.counted) }

pub loop-i-init : goal.loop-i-init
loop-i-init c =
    let list : Source = let a = c.args in source a.sets.now a.words.now a.pos.now a.neg.now a.bounds.now in
    let first : Left c.args.n 0 c.args.records origin 3 list = left-start c.args.h c.args.n c.args.records list c.args.s.now c.requires in
    (first, put-start c.args.n _ _ _ _ _ _)

pub returns-in_default : goal.returns-in_default
returns-in_default c =
    let list : Source = let a = c.args in source a.sets.now a.words.now a.pos.now a.neg.now a.bounds.now in
    turn-none c.args.n c.loop-i.i c.args.records c.loop-i.at c.loop-i.k list c.loop-i.invariant.0 c.loop-i-test.true
    (sym c.in_default.ensures)

pub bounds-sets-i : goal.bounds-sets-i
bounds-sets-i c =
    let list : Source = let a = c.args in source a.sets.now a.words.now a.pos.now a.neg.now a.bounds.now in
    let found : whole_at c.loop-i.at list ≡ Some c.in-Some.e = sym c.in-Some.ensures in
    turn-row c.args.n c.loop-i.i c.args.records c.loop-i.at c.loop-i.k list c.loop-i.invariant.0 c.loop-i-test.true c.in-Some.e (found)

pub put_found-requires : goal.put_found-requires
put_found-requires c =
    let list : Source = let a = c.args in source a.sets.now a.words.now a.pos.now a.neg.now a.bounds.now in
    let found : whole_at c.loop-i.at list ≡ Some c.in-Some.e = sym c.in-Some.ensures in
    record {
      room = record {
        small = c.info_of-info.ensures.1;
        few = omega (arith, c.loop-i.invariant.0.few);
        long = omega (arith, c.requires.room, c.loop-i.auto.s, c.put_header.auto.s);
      };
      whole_there = whole-lies c.loop-i.at list c.in-Some.e (found);
      e_bound = turn-room c.args.n c.loop-i.i c.args.records c.loop-i.at c.loop-i.k list c.loop-i.invariant.0 c.loop-i-test.true c.in-Some.e (found);
    }

pub width_at-k-requires : goal.width_at-k-requires
width_at-k-requires c =
    let list : Source = let a = c.args in source a.sets.now a.words.now a.pos.now a.neg.now a.bounds.now in
    let found : whole_at c.loop-i.at list ≡ Some c.in-Some.e = sym c.in-Some.ensures in
    step_spanned c.loop-i.at list c.in-Some.e
    (turn_step c.args.n c.loop-i.i c.args.records c.loop-i.at c.loop-i.k list c.loop-i.invariant.0 c.loop-i-test.true c.in-Some.e (found))

pub overflow_add-k : goal.overflow_add-k
overflow_add-k c =
    let list : Source = let a = c.args in source a.sets.now a.words.now a.pos.now a.neg.now a.bounds.now in
    let found : whole_at c.loop-i.at list ≡ Some c.in-Some.e = sym c.in-Some.ensures in
    let r =
    turn-room c.args.n c.loop-i.i c.args.records c.loop-i.at c.loop-i.k list c.loop-i.invariant.0 c.loop-i-test.true c.in-Some.e (found) in
    omega (arith, r, c.width_at-k.ensures, c.loop-i.invariant.0.few)

pub loop-i-preserved : goal.loop-i-preserved
loop-i-preserved c =
    let list : Source = let a = c.args in source a.sets.now a.words.now a.pos.now a.neg.now a.bounds.now in
    let found : whole_at c.loop-i.at list ≡ Some c.in-Some.e = sym c.in-Some.ensures in (
      turn-left c.args.n c.loop-i.i c.args.records c.loop-i.at c.loop-i.k list c.loop-i.invariant.0 c.loop-i-test.true c.in-Some.e (found)
          c.width_at-k.result c.width_at-k.ensures,
      c.loop-i.invariant.1
          ∙ turn-put c.args.n c.loop-i.i c.args.records c.loop-i.at c.loop-i.k list c.loop-i.invariant.0 c.loop-i-test.true c.in-Some.e (found)
          c.width_at-k.result c.width_at-k.ensures _ c.loop-i.s _ c.put_found.ensures,
    )

pub returns : goal.returns
returns c =
    let list : Source = let a = c.args in source a.sets.now a.words.now a.pos.now a.neg.now a.bounds.now in
    sheet-put c.args.h c.args.n c.info_of-info.result c.args.records list c.args.s.now _ c.loop-i.s
    c.info_of-info.ensures.0 c.put_header.ensures c.loop-i.i c.loop-i-test.false c.loop-i.at c.loop-i.k c.loop-i.invariant.1
