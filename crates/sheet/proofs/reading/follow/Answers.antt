-- `sheet::reading::follow` meets its contract. Assumes nothing.
use mathlib.Core.Path.{sym, ◌∙◌}
use Rattle.pooling.specs.Lists.{Source, source}
use Rattle.sheet.proofs.Sheets.{input-ends, no_record, a_record}
use Rattle.sheet.proofs.reading.follow.Goals as goal

pub returns-then-is_none : goal.returns-then-is_none
returns-then-is_none c =
    let listed : Source = let a = c.args in source a.sets.now a.words.now a.pos.now a.neg.now a.bounds.now in
    let a = c.args in let all = input-ends a.st a.line.now a.over a.n a.text.now (listed) a.sheet.now
    (sym c.is_none.ensures ∙ c.if-is_none.true) c.ended.result c.ended.ensures in record { bounds_value = all.0; sheet_after = all.1 }

pub returns-then-not-is_record : goal.returns-then-not-is_record
returns-then-not-is_record c =
    let listed : Source = let a = c.args in source a.sets.now a.words.now a.pos.now a.neg.now a.bounds.now in
    let a = c.args in let all = no_record a.st a.line.now a.over a.n a.text.now (listed) a.sheet.now
    (sym c.is_none.ensures ∙ c.if-is_none.false) (sym c.is_record.ensures ∙ c.if-not-is_record.true) in record { bounds_value = all.0; sheet_after = all.1 }

pub put-requires : goal.put-requires
put-requires c =
    sym c.is_record.ensures ∙ c.if-not-is_record.false

pub returns : goal.returns
returns c =
    let listed : Source = let a = c.args in source a.sets.now a.words.now a.pos.now a.neg.now a.bounds.now in
    let a = c.args in let all = a_record a.st a.line.now a.over a.n a.text.now (listed) a.sheet.now
    (sym c.is_none.ensures ∙ c.if-is_none.false) (sym c.is_record.ensures ∙ c.if-not-is_record.false) c.put.result
    c.put.ensures.value _ c.put.ensures.sheet_after _ c.go_on.ensures in record { bounds_value = all.0; sheet_after = all.1 }
