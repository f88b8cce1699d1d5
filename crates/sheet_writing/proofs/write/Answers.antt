-- `sheet_writing::write` meets its contract. Assumes nothing.
use mathlib.Core.Path.{◌≡◌, refl, sym, ◌∙◌}
use native.Mathlib.Omega.{arith}
use Rattle.std.specs.Prelude.{Some}
use Rattle.pooling.specs.Lists.{Source, source}
use Rattle.sheet_writing.specs.Inner.{judged}
use Rattle.sheet_writing.specs.Writing.{shadowed}
use Rattle.sheet_writing.proofs.Judged.{judged_bad, judged-few}
use Rattle.sheet_writing.proofs.Wholes.{kinds-real}
use Rattle.sheet_writing.proofs.Answered.{too_short, sheet-written, whole-refused}
use Rattle.sheet_writing.proofs.write.Goals as goal

pub returns-then-not-no_kind : goal.returns-then-not-no_kind
returns-then-not-no_kind c =
    let list : Source = let a = c.args in source a.sets.now a.words.now a.pos.now a.neg.now a.bounds.now in
    let judged-so : judged c.args.n (shadowed (list)) ≡ Some c.in-Some.cells = sym c.in-Some.ensures in
    whole-refused c.args.header c.args.n (list) c.args.out.now c.in-Some.cells (judged-so)
    (sym c.no_kind.ensures ∙ c.if-not-no_kind.true)

pub overflow_mul-size : goal.overflow_mul-size
overflow_mul-size c =
    let list : Source = let a = c.args in source a.sets.now a.words.now a.pos.now a.neg.now a.bounds.now in
    let judged-so : judged c.args.n (shadowed (list)) ≡ Some c.in-Some.cells = sym c.in-Some.ensures in
    let fine : judged c.args.n (list) ≡ Some c.in-Some.cells = kinds-real c.args.n (list) c.args.header c.in-Some.cells (judged-so) (sym c.no_kind.ensures ∙ c.if-not-no_kind.false) in
    omega (arith, (judged-few (list) c.in-Some.cells c.args.n (fine)).2)

pub returns-then-out-size : goal.returns-then-out-size
returns-then-out-size c =
    let list : Source = let a = c.args in source a.sets.now a.words.now a.pos.now a.neg.now a.bounds.now in
    let judged-so : judged c.args.n (shadowed (list)) ≡ Some c.in-Some.cells = sym c.in-Some.ensures in
    let fine : judged c.args.n (list) ≡ Some c.in-Some.cells = kinds-real c.args.n (list) c.args.header c.in-Some.cells (judged-so) (sym c.no_kind.ensures ∙ c.if-not-no_kind.false) in
    too_short c.args.header c.args.n (list) c.args.out.now c.in-Some.cells (fine) c.if-out-size.true

pub put_sheet-requires : goal.put_sheet-requires
put_sheet-requires c =
    let list : Source = let a = c.args in source a.sets.now a.words.now a.pos.now a.neg.now a.bounds.now in
    let judged-so : judged c.args.n (shadowed (list)) ≡ Some c.in-Some.cells = sym c.in-Some.ensures in
    let fine : judged c.args.n (list) ≡ Some c.in-Some.cells = kinds-real c.args.n (list) c.args.header c.in-Some.cells (judged-so) (sym c.no_kind.ensures ∙ c.if-not-no_kind.false) in
    record { cells = c.in-Some.cells; fine = fine; counted = refl; room = c.if-out-size.false }

pub returns-in_default : goal.returns-in_default
returns-in_default c =
    let list : Source = let a = c.args in source a.sets.now a.words.now a.pos.now a.neg.now a.bounds.now in
    sym (judged_bad c.args.header c.args.n (list) c.args.out.now (sym c.in_default.ensures))

pub returns : goal.returns
returns c =
    let list : Source = let a = c.args in source a.sets.now a.words.now a.pos.now a.neg.now a.bounds.now in
    let judged-so : judged c.args.n (shadowed (list)) ≡ Some c.in-Some.cells = sym c.in-Some.ensures in
    let fine : judged c.args.n (list) ≡ Some c.in-Some.cells = kinds-real c.args.n (list) c.args.header c.in-Some.cells (judged-so) (sym c.no_kind.ensures ∙ c.if-not-no_kind.false) in
    sheet-written c.args.header c.args.n (list) c.args.out.now c.in-Some.cells (fine) c.if-out-size.false _ c.put_sheet.ensures
