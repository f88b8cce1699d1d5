-- `whole_listing::decode::is_whole` meets its contract. Assumes nothing.
use mathlib.Core.Path.{refl}
use Rattle.whole_listing.specs.Listed.{is_whole}
use Rattle.whole_listing.proofs.Calls.{no_kind}
use Rattle.whole_listing.proofs.decode.is_whole.Goals as goal

pub returns-then-k-words : goal.returns-then-k-words
returns-then-k-words c = let a = c.args in no_kind a.at a.words.now c.if-k-words.true

pub returns : goal.returns
unfolding is_whole
returns c = refl
