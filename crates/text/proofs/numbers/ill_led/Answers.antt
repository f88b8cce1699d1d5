-- `text::numbers::ill_led` meets its contract. Assumes nothing.
use Rattle.std.proofs.Common.{length, refl, eq-eqb, ne_eqb}
use Rattle.laws.specs.Pick.{pick}
use Rattle.text.specs.Numbers.{ill_led}
use Rattle.text.proofs.numbers.ill_led.Goals as goal

pub returns-then-n-eq0 : goal.returns-then-n-eq0
unfolding ill_led pick
returns-then-n-eq0 c = simp (eq-eqb (length c.args.bytes.now) 0 c.if-n-eq0.true) refl

pub returns-then-n-eq1 : goal.returns-then-n-eq1
unfolding ill_led pick
returns-then-n-eq1 c = simp (ne_eqb (length c.args.bytes.now) 0 c.if-n-eq0.false, eq-eqb (length c.args.bytes.now) 1 c.if-n-eq1.true) refl

pub returns : goal.returns
unfolding ill_led pick
returns c = simp (ne_eqb (length c.args.bytes.now) 0 c.if-n-eq0.false, ne_eqb (length c.args.bytes.now) 1 c.if-n-eq1.false) refl
