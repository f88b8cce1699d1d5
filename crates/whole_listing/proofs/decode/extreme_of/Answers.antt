-- `whole_listing::decode::extreme_of` meets its contract. Assumes nothing.
use mathlib.Core.Path.{sym, ap, ◌∙◌}
use mathlib.Core.Bool.{Bool}
use borrow.Author.Rules.{rules}
use mir.Syntax.{w64}
use mir.Val.{SFits}
use Rattle.laws.specs.Pick.{pick}
use Rattle.std.specs.Prelude.{Some}
use Rattle.integers.proofs.Range.{held}
use Rattle.whole_listing.specs.Words.{extreme_in}
use Rattle.whole_listing.proofs.decode.extreme_of.Goals as goal

pub returns-then-shown : goal.returns-then-shown
unfolding extreme_in pick
returns-then-shown c =
    let r : SFits w64 c.of_bits-x.result = search rules in
    ap Some (held c.of_bits-x.result r ∙ c.of_bits-x.ensures) ∙ sym (ap (λ (b : Bool). extreme_in b c.args.bits) c.if-shown.true)

pub returns : goal.returns
unfolding extreme_in pick
returns c = sym (ap (λ (b : Bool). extreme_in b c.args.bits) c.if-shown.false)
