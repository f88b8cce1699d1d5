-- `sheet::calls::make` meets its contract. Assumes nothing.
use mathlib.Core.Path.{sym, ◌∙◌}
use Rattle.std.specs.Prelude.{Some}
use Rattle.directory.specs.View.{Stores, stores}
use Rattle.exponential_slots.specs.Cells.{Cells, cells}
use Rattle.pooling.specs.Lists.{Source, source}
use Rattle.sheet.proofs.Following.{line-none, line-unread, silent-none, silent-some, line_record, line-start, line-collect}
use Rattle.sheet.proofs.calls.make.Goals as goal

pub returns-in-None : goal.returns-in-None
returns-in-None c =
    let dirs : Stores = let a = c.args in stores a.sets.now a.entries.now a.order.now in
    let lent : Cells = let a = c.args in cells a.figures.now a.extremes.now a.pos.now a.neg.now in
    let outs : Source = let a = c.args in source a.out_sets.now a.out_words.now a.out_pos.now a.out_neg.now a.bounds.now in
    let a = c.args in
    line-none a.g a.line.now a.over a.n a.text.now (dirs) (lent) (outs) a.sheet.now (sym c.call_in.ensures ∙ c.in-None.is) c.ended.result c.ended.ensures

pub returns-in-Unread : goal.returns-in-Unread
returns-in-Unread c =
    let dirs : Stores = let a = c.args in stores a.sets.now a.entries.now a.order.now in
    let lent : Cells = let a = c.args in cells a.figures.now a.extremes.now a.pos.now a.neg.now in
    let outs : Source = let a = c.args in source a.out_sets.now a.out_words.now a.out_pos.now a.out_neg.now a.bounds.now in
    let a = c.args in
    line-unread a.g a.line.now a.over a.n a.text.now (dirs) (lent) (outs) a.sheet.now (sym c.call_in.ensures ∙ c.in-Unread.is)

pub returns-in_err-gauge-in-Record : goal.returns-in_err-gauge-in-Record
returns-in_err-gauge-in-Record c =
    let dirs : Stores = let a = c.args in stores a.sets.now a.entries.now a.order.now in
    let lent : Cells = let a = c.args in cells a.figures.now a.extremes.now a.pos.now a.neg.now in
    let outs : Source = let a = c.args in source a.out_sets.now a.out_words.now a.out_pos.now a.out_neg.now a.bounds.now in
    let a = c.args in
    line_record a.g a.line.now a.over a.n a.text.now (dirs) (lent) (outs) a.sheet.now c.record.result c.from_residual.result
    (silent-none a.g a.line.now a.over a.n a.text.now (dirs) (lent) (outs) a.sheet.now _ _ c.in_err-gauge-in-Record.was c.from_residual.ensures) _ _ (sym c.call_in.ensures ∙ c.in-Record.is) c.record.ensures

pub returns-in_ok-gauge-in-Record : goal.returns-in_ok-gauge-in-Record
returns-in_ok-gauge-in-Record c =
    let dirs : Stores = let a = c.args in stores a.sets.now a.entries.now a.order.now in
    let lent : Cells = let a = c.args in cells a.figures.now a.extremes.now a.pos.now a.neg.now in
    let outs : Source = let a = c.args in source a.out_sets.now a.out_words.now a.out_pos.now a.out_neg.now a.bounds.now in
    let a = c.args in
    line_record a.g a.line.now a.over a.n a.text.now (dirs) (lent) (outs) a.sheet.now c.record.result (Some c.ended-in-Record.result)
    (silent-some a.g a.line.now a.over a.n a.text.now (dirs) (lent) (outs) a.sheet.now _ _ c.in_ok-gauge-in-Record.was c.ended-in-Record.result c.ended-in-Record.ensures) _ _ (sym c.call_in.ensures ∙ c.in-Record.is) c.record.ensures

pub returns-in_err-gauge-in-Start : goal.returns-in_err-gauge-in-Start
returns-in_err-gauge-in-Start c =
    let dirs : Stores = let a = c.args in stores a.sets.now a.entries.now a.order.now in
    let lent : Cells = let a = c.args in cells a.figures.now a.extremes.now a.pos.now a.neg.now in
    let outs : Source = let a = c.args in source a.out_sets.now a.out_words.now a.out_pos.now a.out_neg.now a.bounds.now in
    let a = c.args in
    line-start a.g a.line.now a.over a.n a.text.now (dirs) (lent) (outs) a.sheet.now c.start.result c.from_residual-in_err-gauge-in-Start.result
    (silent-none a.g a.line.now a.over a.n a.text.now (dirs) (lent) (outs) a.sheet.now _ _ c.in_err-gauge-in-Start.was c.from_residual-in_err-gauge-in-Start.ensures) _ _ (sym c.call_in.ensures ∙ c.in-Start.is) c.start.ensures

pub returns-in_ok-gauge-in-Start : goal.returns-in_ok-gauge-in-Start
returns-in_ok-gauge-in-Start c =
    let dirs : Stores = let a = c.args in stores a.sets.now a.entries.now a.order.now in
    let lent : Cells = let a = c.args in cells a.figures.now a.extremes.now a.pos.now a.neg.now in
    let outs : Source = let a = c.args in source a.out_sets.now a.out_words.now a.out_pos.now a.out_neg.now a.bounds.now in
    let a = c.args in
    line-start a.g a.line.now a.over a.n a.text.now (dirs) (lent) (outs) a.sheet.now c.start.result (Some c.ended-in-Start.result)
    (silent-some a.g a.line.now a.over a.n a.text.now (dirs) (lent) (outs) a.sheet.now _ _ c.in_ok-gauge-in-Start.was c.ended-in-Start.result c.ended-in-Start.ensures) _ _ (sym c.call_in.ensures ∙ c.in-Start.is) c.start.ensures

pub returns-in-Collect : goal.returns-in-Collect
returns-in-Collect c =
    let dirs : Stores = let a = c.args in stores a.sets.now a.entries.now a.order.now in
    let lent : Cells = let a = c.args in cells a.figures.now a.extremes.now a.pos.now a.neg.now in
    let outs : Source = let a = c.args in source a.out_sets.now a.out_words.now a.out_pos.now a.out_neg.now a.bounds.now in
    let a = c.args in
    line-collect a.g a.line.now a.over a.n a.text.now (dirs) (lent) (outs) a.sheet.now (sym c.call_in.ensures ∙ c.in-Collect.is) _ c.collect.ensures
