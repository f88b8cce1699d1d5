-- `sheet_writing::judge::step_at` meets its contract. Assumes nothing.
use mathlib.Core.Path.{refl, sym, ap, ◌∙◌}
use Rattle.pooling.specs.Lists.{Source, source, whole_at}
use Rattle.sheet_writing.specs.Writing.{shadowed}
use Rattle.sheet_writing.specs.Inner.{agreeing, lent_beside}
use Rattle.sheet_writing.proofs.Steps.{agreeing-alike, step-no, step_is}
use Rattle.sheet_writing.proofs.judge.step_at.Goals as goal

pub returns-then-not-row_taken : goal.returns-then-not-row_taken
returns-then-not-row_taken c =
    let list : Source = let a = c.args in shadowed (source a.sets.now a.words.now a.pos.now a.neg.now a.bounds.now) in
    step-no c.args.at (list) (sym c.row_taken.ensures ∙ c.if-not-row_taken.true)

pub returns : goal.returns
returns c =
    let list : Source = let a = c.args in shadowed (source a.sets.now a.words.now a.pos.now a.neg.now a.bounds.now) in
    let a = c.args in
    c.agreeing_at.ensures
    ∙ ap (agreeing a.at (lent_beside a.pos.now a.neg.now a.bounds.now)) c.shadow_at-found.ensures
    ∙ agreeing-alike a.at (lent_beside a.pos.now a.neg.now a.bounds.now) (list) refl refl refl (whole_at a.at (list))
    ∙ step_is a.at (list) (sym c.row_taken.ensures ∙ c.if-not-row_taken.false)
