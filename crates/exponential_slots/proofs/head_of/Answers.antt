-- `exponential_slots::head_of` meets its contract. Assumes nothing.
use mathlib.Core.Path.{sym, ◌∙◌}
use Rattle.exponential_slots.proofs.Cases.{reads_held, head-held, head-fresh}
use Rattle.exponential_slots.proofs.head_of.Goals as goal

pub head_in-requires : goal.head_in-requires
head_in-requires c = sym (reads_held c.args.updated c.args.f c.if-updated.true) ∙ c.requires

pub returns-then-updated : goal.returns-then-updated
returns-then-updated c = c.head_in.ensures ∙ sym (head-held c.args.top c.args.updated c.args.f c.args.m c.if-updated.true)

pub returns : goal.returns
returns c = c.fresh.ensures ∙ sym (head-fresh c.args.top c.args.updated c.args.f c.args.m c.if-updated.false)
