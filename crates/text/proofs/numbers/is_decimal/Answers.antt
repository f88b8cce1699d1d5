-- `text::numbers::is_decimal` meets its contract. Assumes nothing.
use Rattle.std.proofs.Common.{arith}
use Rattle.text.specs.Pairs.{is_decimal}
use Rattle.text.proofs.Pairing.{in-range}
use Rattle.text.proofs.numbers.is_decimal.Goals as goal

pub returns : goal.returns
unfolding is_decimal
returns c = in-range c.wrapping_sub_u8.result c.args.byte 48 10 57 (omega arith) (omega arith) (omega arith) c.wrapping_sub_u8.ensures.value
