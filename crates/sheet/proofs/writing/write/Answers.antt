-- `sheet::writing::write` meets its contract. Assumes nothing.
use Rattle.lines.specs.Gathered.{waiting}
use Rattle.pooling.specs.Lists.{Source, source}
use Rattle.sheet.proofs.Sheets.{write-refused, write-made}
use Rattle.sheet.proofs.writing.write.Goals as goal

pub returns-in-Err : goal.returns-in-Err
returns-in-Err c =
    let listed : Source = let a = c.args in source a.sets.now a.words.now a.pos.now a.neg.now a.bounds.now in
    let a = c.args in
    write-refused a.header a.many (listed) a.sheet.now (waiting a.n a.text.now) c.write.result _ c.write.ensures
    _ c.in-Err.is _ c.refusal.ensures

pub returns-in-Ok : goal.returns-in-Ok
returns-in-Ok c =
    let listed : Source = let a = c.args in source a.sets.now a.words.now a.pos.now a.neg.now a.bounds.now in
    let a = c.args in
    write-made a.header a.many (listed) a.sheet.now (waiting a.n a.text.now) c.write.result _ c.write.ensures
    _ c.in-Ok.is _ c.front.ensures _ c.sheet_lines.ensures
