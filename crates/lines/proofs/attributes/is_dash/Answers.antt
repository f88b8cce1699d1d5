-- `lines::attributes::is_dash` meets its contract. Assumes nothing.
use mathlib.Core.Path.{refl}
use lib.ListN.{length}
use borrow.Author.Tests.{eq-eqb, ne_eqb}
use Rattle.lines.specs.Spelled.{is_dash}
use Rattle.lines.proofs.attributes.is_dash.Goals as goal

pub returns-then-bytes-ne1 : goal.returns-then-bytes-ne1
unfolding is_dash
returns-then-bytes-ne1 c = simp (ne_eqb (length c.args.bytes.now) 1 c.if-bytes-ne1.true) refl

pub returns : goal.returns
unfolding is_dash
returns c = simp (eq-eqb (length c.args.bytes.now) 1 c.if-bytes-ne1.false) refl
