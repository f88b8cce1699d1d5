-- `sheet::digits::glyph` meets its contract. Assumes nothing.
use mathlib.Core.Path.{refl}
use borrow.Author.Tests.{lt-ltb, le-ltb}
use Rattle.laws.specs.Pick.{pick}
use Rattle.text.specs.Numbers.{glyph_of}
use Rattle.sheet.proofs.digits.glyph.Goals as goal

pub returns-then-d-lt10 : goal.returns-then-d-lt10
unfolding glyph_of pick
returns-then-d-lt10 c = simp (lt-ltb c.args.d 10 c.if-d-lt10.true) refl

pub returns : goal.returns
unfolding glyph_of pick
returns c = simp (le-ltb c.args.d 10 c.if-d-lt10.false) refl
