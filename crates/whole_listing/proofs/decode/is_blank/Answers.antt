-- `whole_listing::decode::is_blank` meets its contract. Assumes nothing.
use mathlib.Core.Path.{sym, ap}
use mathlib.Core.Bool.{Bool}
use Rattle.whole_listing.specs.Inner.{blank}
use Rattle.whole_listing.proofs.decode.is_blank.Goals as goal

pub returns : goal.returns
returns c = sym (ap (λ (b : Bool). blank b c.args.bits) c.if-shown.false)
