-- `sets::set_row::plain_row` meets its contract. Assumes nothing.
use mathlib.Core.Path.{sym}
use Rattle.sets.proofs.Plains.{plain_over, plain-one, plain-many}
use Rattle.sets.proofs.set_row.plain_row.Goals as goal

pub returns-then-row-eq-OVERFLOW : goal.returns-then-row-eq-OVERFLOW
returns-then-row-eq-OVERFLOW c = sym (plain_over c.args.row.now c.if-row-eq1.true c.if-row-eq-OVERFLOW.true)

pub returns-then-row-eq1 : goal.returns-then-row-eq1
returns-then-row-eq1 c = sym (plain-one c.args.row.now c.if-row-eq1.true c.if-row-eq-OVERFLOW.false)

pub returns : goal.returns
returns c = sym (plain-many c.args.row.now c.requires c.if-row-eq1.false)
