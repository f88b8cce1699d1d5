-- `text::numbers::joined` meets its contract. Assumes nothing.
use Rattle.std.proofs.Common.{arith}
use Rattle.text.specs.Pairs.{joined_to}
use Rattle.text.proofs.numbers.joined.Goals as goal

pub returns : goal.returns
unfolding joined_to
returns c = omega (arith, c.from_be_bytes.ensures)
