-- `lines::attributes::goes_on` meets its contract. Assumes nothing.
use borrow.Author.Rules.{rules}
use Rattle.lines.proofs.Scanning.{other-stands, none-stands}
use Rattle.lines.proofs.attributes.goes_on.Goals as goal

pub returns-then-at-bytes : goal.returns-then-at-bytes
returns-then-at-bytes c =
    let a = c.args in
    other-stands a.mark a.bytes.now a.at c.if-at-bytes.true

pub returns : goal.returns
returns c =
    let a = c.args in
    none-stands a.mark a.bytes.now a.at (search rules)
