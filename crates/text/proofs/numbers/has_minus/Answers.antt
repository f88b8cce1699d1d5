-- `text::numbers::has_minus` meets its contract. Assumes nothing.
use Rattle.std.proofs.Common.{length, refl, eq-eqb, ne_eqb}
use Rattle.laws.specs.Pick.{pick}
use Rattle.text.specs.Numbers.{has_minus}
use Rattle.text.proofs.numbers.has_minus.Goals as goal

pub returns-then-bytes-eq0 : goal.returns-then-bytes-eq0
unfolding has_minus pick
returns-then-bytes-eq0 c = simp (eq-eqb (length c.args.bytes.now) 0 c.if-bytes-eq0.true) refl

pub returns : goal.returns
unfolding has_minus pick
returns c = simp (ne_eqb (length c.args.bytes.now) 0 c.if-bytes-eq0.false) refl
