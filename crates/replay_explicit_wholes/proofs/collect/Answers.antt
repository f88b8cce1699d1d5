-- `replay_explicit_wholes::collect` meets its contract. Assumes nothing.
use mathlib.Core.Path.{◌∙◌}
use borrow.Author.Tests.{eq-eqb, ne_eqb}
use Rattle.replay_state.proofs.Lines.{collects-none, collects-other, collects_delta, collects-cumulative}
use Rattle.replay_explicit_wholes.proofs.collect.Goals as goal

pub returns-then-s-ne88 : goal.returns-then-s-ne88
returns-then-s-ne88 c = collects-none _ _ _ (ne_eqb _ _ c.if-s-ne88.true)

pub returns-then-s-ne99 : goal.returns-then-s-ne99
returns-then-s-ne99 c =
    collects-other _ _ _ (eq-eqb _ _ c.if-s-ne88.false) (ne_eqb _ _ c.if-s-ne99.true)

pub returns-then-s : goal.returns-then-s
returns-then-s c =
    c.delta.ensures
    ∙ collects_delta _ _ _ (eq-eqb _ _ c.if-s-ne88.false) (eq-eqb _ _ c.if-s-ne99.false) c.if-s.true

pub returns : goal.returns
returns c =
    c.cumulative.ensures
    ∙ collects-cumulative _ _ _ (eq-eqb _ _ c.if-s-ne88.false) (eq-eqb _ _ c.if-s-ne99.false) c.if-s.false
