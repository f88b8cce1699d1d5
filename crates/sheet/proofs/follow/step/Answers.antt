-- `sheet::follow::step` meets its contract. Assumes nothing.
use mathlib.Core.Path.{sym, ◌∙◌}
use Rattle.directory.specs.View.{Stores, stores}
use Rattle.exponential_slots.specs.Cells.{Cells, cells}
use Rattle.pooling.specs.Lists.{Source, source}
use Rattle.sheet.specs.Followed.{done, taken_by}
use Rattle.sheet.proofs.Following.{step-inside, step-begins, step-calls}
use Rattle.sheet.proofs.follow.step.Goals as goal

pub returns-then-st-gt0 : goal.returns-then-st-gt0
returns-then-st-gt0 c =
    let dirs : Stores = let a = c.args in stores a.sets.now a.entries.now a.order.now in
    let lent : Cells = let a = c.args in cells a.figures.now a.extremes.now a.pos.now a.neg.now in
    let outs : Source = let a = c.args in source a.out_sets.now a.out_words.now a.out_pos.now a.out_neg.now a.bounds.now in
    let a = c.args in
    step-inside a.st a.line.now a.over a.n a.text.now (dirs) (lent) (outs) a.sheet.now c.if-st-gt0.true
    (done a.st.gauge a.n c.follow.result) _ _ _ (c.follow.ensures.bounds_value, c.follow.ensures.sheet_after)

pub returns-in-Some : goal.returns-in-Some
returns-in-Some c =
    let dirs : Stores = let a = c.args in stores a.sets.now a.entries.now a.order.now in
    let lent : Cells = let a = c.args in cells a.figures.now a.extremes.now a.pos.now a.neg.now in
    let outs : Source = let a = c.args in source a.out_sets.now a.out_words.now a.out_pos.now a.out_neg.now a.bounds.now in
    let a = c.args in
    step-begins a.st a.line.now a.over a.n a.text.now (dirs) (lent) (outs) a.sheet.now c.if-st-gt0.false
    c.in-Some.records (sym c.records_in.ensures ∙ c.in-Some.is) (taken_by c.begin.result) _ _ c.begin.ensures

pub returns-in-None : goal.returns-in-None
returns-in-None c =
    let dirs : Stores = let a = c.args in stores a.sets.now a.entries.now a.order.now in
    let lent : Cells = let a = c.args in cells a.figures.now a.extremes.now a.pos.now a.neg.now in
    let outs : Source = let a = c.args in source a.out_sets.now a.out_words.now a.out_pos.now a.out_neg.now a.bounds.now in
    let a = c.args in
    step-calls a.st a.line.now a.over a.n a.text.now (dirs) (lent) (outs) a.sheet.now c.if-st-gt0.false
    (sym c.records_in.ensures ∙ c.in-None.is) _ c.make.ensures
