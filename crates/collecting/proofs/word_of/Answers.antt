-- `collecting::word_of` meets its contract. Assumes nothing.
use mathlib.Core.Path.{sym}
use borrow.Author.Tests.{lt-ltb, le-ltb}
use Rattle.laws.proofs.Bools.{pick_true, pick-false}
use Rattle.collecting.proofs.word_of.Goals as goal

pub returns-then-i-row : goal.returns-then-i-row
returns-then-i-row c = sym (pick_true _ _ _ (lt-ltb _ _ c.if-i-row.true))

pub returns : goal.returns
returns c = sym (pick-false _ _ _ (le-ltb _ _ c.if-i-row.false))
