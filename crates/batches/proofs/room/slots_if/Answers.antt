-- `batches::room::slots_if` meets its contract. Assumes nothing.
use mathlib.Core.Path.{sym}
use Rattle.laws.proofs.Bools.{pick_true, pick-false}
use Rattle.batches.proofs.room.slots_if.Goals as goal

pub returns-then-suffice : goal.returns-then-suffice
returns-then-suffice c = sym (pick_true c.args.suffice 18446744073709551615 0 c.if-suffice.true)

pub returns-else-suffice : goal.returns-else-suffice
returns-else-suffice c = sym (pick-false c.args.suffice 18446744073709551615 0 c.if-suffice.false)
