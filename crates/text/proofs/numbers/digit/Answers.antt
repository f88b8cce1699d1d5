-- `text::numbers::digit` meets its contract. Assumes nothing.
use Rattle.std.proofs.Common.{arith}
use Rattle.text.proofs.Pairing.{below-digits, above_decimals, digit-none, digit-some}
use Rattle.text.proofs.numbers.digit.Goals as goal

pub returns-in-48-to-57 : goal.returns-in-48-to-57
returns-in-48-to-57 c = digit-some c.args.byte (omega arith) (omega arith)

pub returns-in_default : goal.returns-in_default
returns-in_default c = digit-none c.args.byte (omega (arith, below-digits c.args.byte (omega arith)))

pub returns-in_default-2 : goal.returns-in_default-2
returns-in_default-2 c = digit-none c.args.byte (above_decimals c.args.byte (omega arith))
