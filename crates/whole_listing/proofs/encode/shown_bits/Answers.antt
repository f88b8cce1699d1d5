-- `whole_listing::encode::shown_bits` meets its contract. Assumes nothing.
use mathlib.Core.Path.{sym, ap, ◌∙◌}
use borrow.Author.Rules.{rules}
use mir.Syntax.{w64}
use mir.Val.{SFits}
use Rattle.integers.specs.Answers.{bits_of}
use Rattle.integers.proofs.Range.{held}
use Rattle.whole_listing.specs.Words.{shown_bits}
use Rattle.whole_listing.proofs.encode.shown_bits.Goals as goal

pub returns-in-Some : goal.returns-in-Some
returns-in-Some c =
    let number : SFits w64 c.in-Some.v = search rules in
    c.bits_of.ensures ∙ ap bits_of (held c.in-Some.v (number)) ∙ sym (ap shown_bits c.in-Some.is)
