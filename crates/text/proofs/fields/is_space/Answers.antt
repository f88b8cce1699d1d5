-- `text::fields::is_space` meets its contract. Assumes nothing.
use Rattle.std.proofs.Common.{◌≡◌, ◌≤◌, ◌==◌, Bool, true, false, refl, ◌∙◌, arith}
use mir.Val.{bool_byte}
use Rattle.laws.specs.Counting.{bit}
use Rattle.text.specs.Fields.{space}
use Rattle.text.proofs.fields.is_space.Goals as goal

byte-bit : (b : Bool) → bool_byte b ≡ bit b
byte-bit true = refl
byte-bit false = refl

at-most : (b : Bool) → bool_byte b ≤ 1
at-most true = omega arith
at-most false = omega arith

pub returns : goal.returns
unfolding space
returns c = record { value = c.from.ensures ∙ byte-bit _; upper_bound = omega (arith, c.from.ensures, at-most (c.args.byte == 32)) }
