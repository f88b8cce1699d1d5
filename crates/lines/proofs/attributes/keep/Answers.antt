-- `lines::attributes::keep` meets its contract. Assumes nothing.
use mathlib.Core.Path.{sym}
use borrow.Author.Tests.{lt-ltb, le-ltb}
use Rattle.laws.proofs.Bools.{pick_true, pick-false}
use Rattle.lines.specs.Spelled.{next, put}
use Rattle.lines.proofs.attributes.keep.Goals as goal

pub returns-then-n-lt9 : goal.returns-then-n-lt9
unfolding next put
returns-then-n-lt9 c =
    let t = lt-ltb c.args.n 9 c.if-n-lt9.true in record { value = sym (pick_true _ _ _ t); attrs_after = sym (pick_true _ _ _ t) }

pub returns : goal.returns
unfolding next put
returns c =
    let t = le-ltb c.args.n 9 c.if-n-lt9.false in record { value = sym (pick-false _ _ _ t); attrs_after = sym (pick-false _ _ _ t) }
