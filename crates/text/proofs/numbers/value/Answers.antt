-- `text::numbers::value` meets its contract. Assumes nothing.
use Rattle.text.proofs.Pairing.{value-is}
use Rattle.text.proofs.numbers.value.Goals as goal

pub returns : goal.returns
returns c = value-is c.args.byte c.requires
