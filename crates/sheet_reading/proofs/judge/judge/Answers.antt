-- `sheet_reading::judge::judge` meets its contract. Assumes nothing.
use mathlib.Core.Path.{sym, ◌∙◌}
use native.Mathlib.Omega.{arith}
use lib.ListN.{replicate}
use Rattle.records.proofs.Found.{cells-length}
use Rattle.sheet_reading.proofs.TurnLaws.{first-turn, end_bad, end-fine, entry_bad, row-there, head-there, next_small}
use Rattle.sheet_reading.proofs.TurnLaws.{row_small, order_bad, head-passes, sizes-few, addable, words_small, next-turn}
use Rattle.sheet_reading.proofs.judge.judge.Goals as goal

pub loop-i-init : goal.loop-i-init
loop-i-init c = first-turn c.args.s.now c.args.n (replicate 9 0) c.requires.0 c.requires.1 (omega arith)

pub entry_holds-requires : goal.entry_holds-requires
entry_holds-requires c =
    (sym (cells-length c.args.s.now), omega (arith, c.loop-i.invariant.within, cells-length c.args.s.now), omega (arith, c.loop-i.invariant.many, cells-length c.args.s.now))

pub returns-then-not-entry_holds : goal.returns-then-not-entry_holds
returns-then-not-entry_holds c =
    let m = c.args in
    let l = c.loop-i in
    entry_bad m.s.now m.n l.all l.last l.k l.i l.invariant c.loop-i-test.true
    (sym c.entry_holds.ensures ∙ c.if-not-entry_holds.true)

pub row_at-row-requires : goal.row_at-row-requires
row_at-row-requires c =
    let m = c.args in
    let l = c.loop-i in
    row-there m.s.now m.n l.all l.last l.k l.i l.invariant c.loop-i-test.true
    (sym c.entry_holds.ensures ∙ c.if-not-entry_holds.false)

pub may_follow-requires : goal.may_follow-requires
may_follow-requires c =
    let m = c.args in
    let l = c.loop-i in (
      l.invariant.small,
      row_small m.s.now m.n l.all l.last l.k l.i l.invariant c.loop-i-test.true
          (sym c.entry_holds.ensures ∙ c.if-not-entry_holds.false) c.row_at-row.result c.row_at-row.ensures,
    )

pub returns-then-not-may_follow : goal.returns-then-not-may_follow
returns-then-not-may_follow c =
    let m = c.args in
    let l = c.loop-i in
    order_bad m.s.now m.n l.all l.last l.k l.i l.invariant c.loop-i-test.true
    (sym c.entry_holds.ensures ∙ c.if-not-entry_holds.false) c.row_at-row.result c.row_at-row.ensures
    (sym c.may_follow.ensures ∙ c.if-not-may_follow.true)

pub overflow_add-k : goal.overflow_add-k
overflow_add-k c =
    let m = c.args in
    let l = c.loop-i in
    omega (
      arith,
      next_small m.s.now m.n l.all l.last l.k l.i l.invariant c.loop-i-test.true
          (sym c.entry_holds.ensures ∙ c.if-not-entry_holds.false),
    )

pub head_at-requires : goal.head_at-requires
head_at-requires c =
    let m = c.args in
    let l = c.loop-i in
    head-there m.s.now m.n l.all l.last l.k l.i l.invariant c.loop-i-test.true
    (sym c.entry_holds.ensures ∙ c.if-not-entry_holds.false)

pub sizes_of-z-requires : goal.sizes_of-z-requires
sizes_of-z-requires c =
    let m = c.args in
    let l = c.loop-i in
    head-passes m.s.now m.n l.all l.last l.k l.i l.invariant c.loop-i-test.true
    (sym c.entry_holds.ensures ∙ c.if-not-entry_holds.false) c.row_at-row.result c.row_at-row.ensures c.head_at.result c.head_at.ensures

pub added-all-requires : goal.added-all-requires
added-all-requires c =
    let m = c.args in
    let l = c.loop-i in
    addable m.s.now m.n l.all l.last l.k l.i l.invariant c.loop-i-test.true
    (sym c.entry_holds.ensures ∙ c.if-not-entry_holds.false) c.row_at-row.result c.row_at-row.ensures c.head_at.result c.head_at.ensures
    c.sizes_of-z.result c.sizes_of-z.ensures

pub words_in-k-requires : goal.words_in-k-requires
words_in-k-requires c =
    let m = c.args in
    let l = c.loop-i in
    sizes-few m.s.now m.n l.all l.last l.k l.i l.invariant c.loop-i-test.true
    (sym c.entry_holds.ensures ∙ c.if-not-entry_holds.false) c.row_at-row.result c.row_at-row.ensures c.head_at.result c.head_at.ensures
    c.sizes_of-z.result c.sizes_of-z.ensures

pub overflow_add-k-in-loop-i : goal.overflow_add-k-in-loop-i
overflow_add-k-in-loop-i c =
    let m = c.args in
    let l = c.loop-i in
    omega (
      arith,
      words_small m.s.now m.n l.all l.last l.k l.i l.invariant c.loop-i-test.true
          (sym c.entry_holds.ensures ∙ c.if-not-entry_holds.false) c.row_at-row.result c.row_at-row.ensures c.head_at.result c.head_at.ensures
          c.sizes_of-z.result c.sizes_of-z.ensures c.words_in-k.result c.words_in-k.ensures,
    )

pub loop-i-preserved : goal.loop-i-preserved
loop-i-preserved c =
    let m = c.args in
    let l = c.loop-i in
    next-turn m.s.now m.n l.all l.last l.k l.i l.invariant c.loop-i-test.true
    (sym c.entry_holds.ensures ∙ c.if-not-entry_holds.false) c.row_at-row.result c.row_at-row.ensures c.head_at.result c.head_at.ensures
    c.sizes_of-z.result c.sizes_of-z.ensures c.added-all.result c.words_in-k.result
    (sym c.may_follow.ensures ∙ c.if-not-may_follow.false) c.added-all.ensures c.words_in-k.ensures

pub returns-then-k-many : goal.returns-then-k-many
returns-then-k-many c =
    let m = c.args in
    let l = c.loop-i in
    end_bad m.s.now m.n l.all l.last l.k l.i l.invariant c.loop-i-test.false (omega (arith, c.if-k-many.true, cells-length m.s.now))

pub returns : goal.returns
returns c =
    let m = c.args in
    let l = c.loop-i in
    end-fine m.s.now m.n l.all l.last l.k l.i l.invariant c.loop-i-test.false (omega (arith, c.if-k-many.false, cells-length m.s.now))
