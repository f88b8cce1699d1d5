-- `text::numbers::is_letter` meets its contract. Assumes nothing.
use Rattle.std.proofs.Common.{arith}
use Rattle.text.specs.Pairs.{is_letter}
use Rattle.text.proofs.Pairing.{in-range}
use Rattle.text.proofs.numbers.is_letter.Goals as goal

pub returns : goal.returns
unfolding is_letter
returns c = in-range c.wrapping_sub_u8.result c.args.byte 65 6 70 (omega arith) (omega arith) (omega arith) c.wrapping_sub_u8.ensures.value
