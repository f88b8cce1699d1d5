-- `sheet::reading::go_on` meets its contract. Assumes nothing.
use Rattle.lines.specs.Gathered.{waiting}
use Rattle.pooling.specs.Lists.{Source, source}
use Rattle.sheet.proofs.Sheets.{goes_on, is_read}
use Rattle.sheet.proofs.reading.go_on.Goals as goal

pub returns-then-st-gt0 : goal.returns-then-st-gt0
returns-then-st-gt0 c =
    let listed : Source = let a = c.args in source a.sets.now a.words.now a.pos.now a.neg.now a.bounds.now in
    let a = c.args in
    goes_on a.st (waiting a.n a.text.now) (listed) a.sheet.now c.if-st-gt0.true

pub returns : goal.returns
returns c =
    let listed : Source = let a = c.args in source a.sets.now a.words.now a.pos.now a.neg.now a.bounds.now in
    let a = c.args in
    is_read a.st (waiting a.n a.text.now) (listed) a.sheet.now c.if-st-gt0.false _ c.front-bytes.ensures _ c.show.ensures
