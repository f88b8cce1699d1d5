-- `collecting::is_due` meets its contract. Assumes nothing.
use mathlib.Core.Path.{sym}
use Rattle.collecting.proofs.Nexts.{due-not, due-named}
use Rattle.collecting.proofs.is_due.Goals as goal

pub returns-then-not-cumulative : goal.returns-then-not-cumulative
returns-then-not-cumulative c = sym (due-not c.args.updated c.args.cumulative c.args.x c.if-updated.false c.if-not-cumulative.true)

pub returns : goal.returns
returns c = sym (due-named c.args.updated c.args.cumulative c.args.x c.if-updated.false c.if-not-cumulative.false)
