-- `single_batches::slot::holds_if` meets its contract. Assumes nothing.
use mathlib.Core.Path.{sym}
use Rattle.single_batches.proofs.slot.holds_if.Goals as goal

pub returns-then-known : goal.returns-then-known
returns-then-known c = sym (c.requires c.if-known.true)
