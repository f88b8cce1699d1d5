-- `listing::decode::extreme_of` meets its contract. Assumes nothing.
use mathlib.Core.Path.{sym, ap, ◌∙◌}
use mathlib.Core.Bool.{Bool}
use Rattle.laws.specs.Pick.{pick}
use Rattle.std.specs.Prelude.{Some}
use Rattle.listing.specs.Words.{extreme_in}
use Rattle.listing.proofs.decode.extreme_of.Goals as goal

pub returns-then-shown : goal.returns-then-shown
unfolding extreme_in pick
returns-then-shown c = ap Some c.of_bits-x.ensures ∙ sym (ap (λ (b : Bool). extreme_in b c.args.bits) c.if-shown.true)

pub returns : goal.returns
unfolding extreme_in pick
returns c = sym (ap (λ (b : Bool). extreme_in b c.args.bits) c.if-shown.false)
