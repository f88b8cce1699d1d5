-- `listing::decode::figures_of` meets its contract. Assumes nothing.
use mathlib.Core.Path.{sym}
use borrow.Author.Tests.{eq-eqb, ne_eqb}
use lib.Dec.{eqb}
use lib.ListN.{get_or}
use Rattle.laws.proofs.Bools.{pick_true, pick-false}
use Rattle.listing.specs.Words.{figures_in}
use Rattle.listing.proofs.decode.figures_of.Goals as goal

pub returns-then-w-eq0 : goal.returns-then-w-eq0
unfolding figures_in
returns-then-w-eq0 c = sym (pick_true (eqb (get_or c.args.w 0 0) 0) _ _ (eq-eqb (get_or c.args.w 0 0) 0 c.if-w-eq0.true))

pub returns : goal.returns
unfolding figures_in
returns c = sym (pick-false (eqb (get_or c.args.w 0 0) 0) _ _ (ne_eqb (get_or c.args.w 0 0) 0 c.if-w-eq0.false))
