-- `lines::output::room` meets its contract. Assumes nothing.
use mathlib.Core.Path.{sym}
use native.Mathlib.Omega.{arith}
use borrow.Author.Tests.{lt-ltb, le-ltb}
use Rattle.laws.proofs.Bools.{pick_true, pick-false}
use Rattle.lines.specs.Gathered.{place}
use Rattle.lines.proofs.output.room.Goals as goal

pub returns-then-n-lt65536 : goal.returns-then-n-lt65536
unfolding place
returns-then-n-lt65536 c = (c.if-n-lt65536.true, sym (pick_true _ _ _ (lt-ltb c.args.n 65536 c.if-n-lt65536.true)))

pub returns : goal.returns
unfolding place
returns c = (omega arith, sym (pick-false _ _ _ (le-ltb c.args.n 65536 c.if-n-lt65536.false)))
