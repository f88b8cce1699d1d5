-- `sheet::reading::is_none` meets its contract. Assumes nothing.
use Rattle.sheet.proofs.Sheets.{empty-line, some-line}
use Rattle.sheet.proofs.reading.is_none.Goals as goal

pub returns-then-line-eq0 : goal.returns-then-line-eq0
returns-then-line-eq0 c = empty-line c.args.line.now c.args.over c.if-line-eq0.true

pub returns : goal.returns
returns c = some-line c.args.line.now c.args.over c.if-line-eq0.false
