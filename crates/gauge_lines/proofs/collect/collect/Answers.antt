-- `gauge_lines::collect::collect` meets its contract. Assumes nothing.
use mathlib.Core.Path.{sym, ◌∙◌}
use Rattle.directory.specs.View.{Stores, stores}
use Rattle.exponential_slots.specs.Cells.{Cells, cells}
use Rattle.listing.specs.Listed.{Output, output}
use Rattle.gauge_lines.proofs.Following.{collect-refused, collect-none, collect-made}
use Rattle.gauge_lines.proofs.collect.collect.Goals as goal

pub returns-in_err-time : goal.returns-in_err-time
returns-in_err-time c =
    let dirs : Stores = let a = c.args in stores a.sets.now a.entries.now a.order.now in
    let lent : Cells = let a = c.args in cells a.figures.now a.extremes.now a.pos.now a.neg.now in
    let outs : Output = let a = c.args in output a.out_sets.now a.out_words.now a.out_pos.now a.out_neg.now in
    let a = c.args in
    collect-refused a.form a.g a.line.now a.n a.text.now (dirs) (lent) (outs)
    (sym c.time_in.ensures ∙ c.in_err-time.was) c.from_residual.result c.from_residual.ensures

pub returns-in_err-many : goal.returns-in_err-many
returns-in_err-many c =
    let dirs : Stores = let a = c.args in stores a.sets.now a.entries.now a.order.now in
    let lent : Cells = let a = c.args in cells a.figures.now a.extremes.now a.pos.now a.neg.now in
    let outs : Output = let a = c.args in output a.out_sets.now a.out_words.now a.out_pos.now a.out_neg.now in
    let a = c.args in
    collect-none a.form a.g a.line.now a.n a.text.now (dirs) (lent) (outs) c.in_ok-time.time
    (sym c.time_in.ensures ∙ c.in_ok-time.was) c.delta-reply.result.answer c.delta-reply.result.dir _ _ c.delta-reply.ensures
    (sym c.ok.ensures.value ∙ c.in_err-many.was) c.from_residual-in_err-many.result c.from_residual-in_err-many.ensures

pub returns : goal.returns
returns c =
    let dirs : Stores = let a = c.args in stores a.sets.now a.entries.now a.order.now in
    let lent : Cells = let a = c.args in cells a.figures.now a.extremes.now a.pos.now a.neg.now in
    let outs : Output = let a = c.args in output a.out_sets.now a.out_words.now a.out_pos.now a.out_neg.now in
    let a = c.args in
    collect-made a.form a.g a.line.now a.n a.text.now (dirs) (lent) (outs) c.in_ok-time.time
    (sym c.time_in.ensures ∙ c.in_ok-time.was) c.delta-reply.result.answer c.delta-reply.result.dir _ _ c.delta-reply.ensures
    c.in_ok-many.many (sym c.ok.ensures.value ∙ c.in_ok-many.was) c.turned-t.result c.turned-t.ensures
    c.collection-end.result _ c.collection-end.ensures
