-- `replay_explicit_wholes::follow` meets its contract. Assumes nothing.
use mathlib.Core.Path.{◌∙◌}
use borrow.Author.Tests.{eq-eqb, ne_eqb}
use Rattle.replay_state.proofs.Lines.{follows-none, follows-n, follows-r, follows-h, follows-b-u, follows-other}
use Rattle.replay_explicit_wholes.proofs.follow.Goals as goal

pub returns-then-s-ne88 : goal.returns-then-s-ne88
returns-then-s-ne88 c = follows-none _ _ _ _ _ _ (ne_eqb _ _ c.if-s-ne88.true)

pub returns-in-110 : goal.returns-in-110
returns-in-110 c =
    c.configure.ensures ∙ follows-n _ _ _ _ _ _ (eq-eqb _ _ c.if-s-ne88.false) c.in-110.is

pub returns-in-114 : goal.returns-in-114
returns-in-114 c =
    c.measure.ensures ∙ follows-r _ _ _ _ _ _ (eq-eqb _ _ c.if-s-ne88.false) c.in-114.is

pub returns-in-104 : goal.returns-in-104
returns-in-104 c =
    c.measure_by.ensures ∙ follows-h _ _ _ _ _ _ (eq-eqb _ _ c.if-s-ne88.false) c.in-104.is

pub returns-in-98 : goal.returns-in-98
returns-in-98 c =
    c.bind.ensures ∙ follows-b-u _ _ _ _ _ _ (eq-eqb _ _ c.if-s-ne88.false) c.in-98.is

pub returns-in_default : goal.returns-in_default
returns-in_default c =
    follows-other _ _ _ _ _ _ (eq-eqb _ _ c.if-s-ne88.false) c.in_default.in_default-own.rest.0.0.0.1 c.in_default.in_default-own.rest.0.0.1 c.in_default.in_default-own.rest.0.1 c.in_default.in_default-own.rest.1
