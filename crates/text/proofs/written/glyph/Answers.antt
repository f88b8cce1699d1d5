-- `text::written::glyph` meets its contract. Assumes nothing.
use Rattle.std.proofs.Common.{◌%◌, refl, arith, le-ltb, lt-ltb}
use Rattle.laws.specs.Pick.{pick}
use Rattle.text.specs.Numbers.{glyph_of}
use Rattle.text.proofs.written.glyph.Goals as goal

pub returns-then-d-lt10 : goal.returns-then-d-lt10
unfolding glyph_of pick
returns-then-d-lt10 c = simp (lt-ltb (c.args.n % 16) 10 (omega (arith, c.if-d-lt10.true))) refl

pub returns-else-d-lt10 : goal.returns-else-d-lt10
unfolding glyph_of pick
returns-else-d-lt10 c = simp (le-ltb (c.args.n % 16) 10 (omega (arith, c.if-d-lt10.false))) refl
