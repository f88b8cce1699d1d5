-- `sweep::moves::move_entry` meets its contract. Assumes nothing.
use mathlib.Core.Path.{sym}
use borrow.Author.Tests.{eq-eqb, ne_eqb}
use Rattle.laws.proofs.Bools.{pick_true, pick-false}
use Rattle.sweep.proofs.moves.move_entry.Goals as goal

pub returns-then-m-eq0 : goal.returns-then-m-eq0
returns-then-m-eq0 c = sym (pick_true _ _ _ (eq-eqb c.args.m 0 c.if-m-eq0.true))

pub returns : goal.returns
returns c = sym (pick-false _ _ _ (ne_eqb c.args.m 0 c.if-m-eq0.false))
