-- `exponential_slots::can_read` meets its contract. Assumes nothing.
use mathlib.Core.Path.{sym, ◌∙◌}
use Rattle.exponential_slots.proofs.Cases.{reads_held, reads-fresh}
use Rattle.exponential_slots.proofs.can_read.Goals as goal

pub returns-then-updated : goal.returns-then-updated
returns-then-updated c = c.are_narrow.ensures ∙ sym (reads_held c.args.updated c.args.f c.if-updated.true)

pub returns : goal.returns
returns c = sym (reads-fresh c.args.updated c.args.f c.if-updated.false)
