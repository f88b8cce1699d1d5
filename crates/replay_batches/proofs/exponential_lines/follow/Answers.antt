-- `replay_batches::exponential_lines::follow` meets its contract. Assumes nothing.
use mathlib.Core.Path.{◌∙◌}
use borrow.Author.Tests.{eq-eqb, ne_eqb}
use Rattle.replay_batches.proofs.Calls.{batches-none, batches-set, batches-handle, batches-other}
use Rattle.replay_batches.proofs.exponential_lines.follow.Goals as goal

pub returns-then-s-ne101 : goal.returns-then-s-ne101
returns-then-s-ne101 c = batches-none _ _ _ (ne_eqb _ _ c.if-s-ne101.true)

pub returns-in-82 : goal.returns-in-82
returns-in-82 c =
    c.measure_all.ensures ∙ batches-set _ _ _ (eq-eqb _ _ c.if-s-ne101.false) c.in-82.is

pub returns-in-72 : goal.returns-in-72
returns-in-72 c =
    c.measure_all_by.ensures ∙ batches-handle _ _ _ (eq-eqb _ _ c.if-s-ne101.false) c.in-72.is

pub returns-in_default : goal.returns-in_default
returns-in_default c =
    batches-other _ _ _ (eq-eqb _ _ c.if-s-ne101.false) c.in_default.in_default-own.rest.0.1 c.in_default.in_default-own.rest.1
