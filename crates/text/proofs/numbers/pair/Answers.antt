-- `text::numbers::pair` meets its contract. Assumes nothing.
use Rattle.std.proofs.Common.{rules}
use Rattle.text.specs.Pairs.{pair_of}
use Rattle.text.proofs.numbers.pair.Goals as goal

pub returns : goal.returns
unfolding pair_of
returns c = search rules
