-- `sheet_writing::judge::judge` meets its contract. Assumes nothing.
use Prim.Native.Nat.{◌+◌}
use mathlib.Core.Path.{sym}
use native.Mathlib.Omega.{arith}
use Rattle.pooling.specs.Lists.{Source, source}
use Rattle.sheet_writing.specs.Writing.{shadowed}
use Rattle.sheet_writing.proofs.Steps.{Going, judged-over, going_start, going_next, going_bad, going_end, step_spanned}
use Rattle.sheet_writing.proofs.judge.judge.Goals as goal

pub returns-then-n-gt64 : goal.returns-then-n-gt64
returns-then-n-gt64 c =
    let list : Source = let a = c.args in shadowed (source a.sets.now a.words.now a.pos.now a.neg.now a.bounds.now) in
    judged-over c.args.n list c.if-n-gt64.true

pub loop-i-init : goal.loop-i-init
loop-i-init c =
    let list : Source = let a = c.args in shadowed (source a.sets.now a.words.now a.pos.now a.neg.now a.bounds.now) in
    going_start c.args.n list c.if-n-gt64.false

pub returns-in_default : goal.returns-in_default
returns-in_default c =
    let list : Source = let a = c.args in shadowed (source a.sets.now a.words.now a.pos.now a.neg.now a.bounds.now) in
    going_bad c.args.n c.loop-i.i c.loop-i.at c.loop-i.cells list c.loop-i.invariant c.loop-i-test.true
    (sym c.in_default.ensures)

pub width_at-cells-requires : goal.width_at-cells-requires
width_at-cells-requires c =
    let list : Source = let a = c.args in shadowed (source a.sets.now a.words.now a.pos.now a.neg.now a.bounds.now) in
    step_spanned c.loop-i.at list c.in-Some.e (sym c.in-Some.ensures)

pub overflow_add-cells : goal.overflow_add-cells
overflow_add-cells c =
    let list : Source = let a = c.args in shadowed (source a.sets.now a.words.now a.pos.now a.neg.now a.bounds.now) in
    let next : Going c.args.n (c.loop-i.i + 1) c.in-Some.e.next (c.loop-i.cells + c.width_at-cells.result) list =
    going_next c.args.n c.loop-i.i c.loop-i.at c.loop-i.cells list c.loop-i.invariant c.loop-i-test.true c.in-Some.e
    (sym c.in-Some.ensures) c.width_at-cells.result c.width_at-cells.ensures in
    let g = next in omega (arith, g.few, g.left, g.most)

pub loop-i-preserved : goal.loop-i-preserved
loop-i-preserved c =
    let list : Source = let a = c.args in shadowed (source a.sets.now a.words.now a.pos.now a.neg.now a.bounds.now) in
    let next : Going c.args.n (c.loop-i.i + 1) c.in-Some.e.next (c.loop-i.cells + c.width_at-cells.result) list =
    going_next c.args.n c.loop-i.i c.loop-i.at c.loop-i.cells list c.loop-i.invariant c.loop-i-test.true c.in-Some.e
    (sym c.in-Some.ensures) c.width_at-cells.result c.width_at-cells.ensures in
    next

pub returns : goal.returns
returns c =
    let list : Source = let a = c.args in shadowed (source a.sets.now a.words.now a.pos.now a.neg.now a.bounds.now) in
    going_end c.args.n c.loop-i.i c.loop-i.at c.loop-i.cells list c.loop-i.invariant c.loop-i-test.false
