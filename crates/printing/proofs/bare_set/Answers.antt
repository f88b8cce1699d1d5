-- `printing::bare_set` meets its contract. Assumes nothing.
use mathlib.Core.Path.{sym}
use Rattle.lines.specs.Gathered.{waiting}
use Rattle.lines.proofs.Gathering.{spelt}
use Rattle.printing.proofs.Sets.{field-none, field-some}
use Rattle.printing.proofs.bare_set.Goals as goal

pub returns-then-row-eq0 : goal.returns-then-row-eq0
returns-then-row-eq0 c =
    let a = c.args in
    spelt (sym (field-none a.row c.if-row-eq0.true)) (waiting a.n a.text.now) c.byte.ensures

pub returns : goal.returns
returns c =
    let a = c.args in
    spelt (field-some a.row c.if-row-eq0.false) (waiting a.n a.text.now) c.attributes.ensures
