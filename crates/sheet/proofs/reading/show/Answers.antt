-- `sheet::reading::show` meets its contract. Assumes nothing.
use Rattle.lines.specs.Gathered.{waiting}
use Rattle.pooling.specs.Lists.{Source, source}
use Rattle.sheet.proofs.Sheets.{show-refused, show-made}
use Rattle.sheet.proofs.reading.show.Goals as goal

pub returns-in-Err : goal.returns-in-Err
returns-in-Err c =
    let listed : Source = let a = c.args in source a.sets.now a.words.now a.pos.now a.neg.now a.bounds.now in
    let a = c.args in
    show-refused a.bytes.now (listed) (waiting a.n a.text.now) c.read.result _ c.read.ensures _ c.in-Err.is _
    c.refusal.ensures

pub returns-in-Ok : goal.returns-in-Ok
returns-in-Ok c =
    let listed : Source = let a = c.args in source a.sets.now a.words.now a.pos.now a.neg.now a.bounds.now in
    let a = c.args in
    show-made a.bytes.now (listed) (waiting a.n a.text.now) c.read.result _ c.read.ensures c.in-Ok.listed
    c.in-Ok.is _ c.collection.ensures
