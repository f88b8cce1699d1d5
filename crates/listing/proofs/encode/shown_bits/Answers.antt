-- `listing::encode::shown_bits` meets its contract. Assumes nothing.
use mathlib.Core.Path.{sym, ap, ◌∙◌}
use Rattle.listing.specs.Words.{shown_bits}
use Rattle.listing.proofs.encode.shown_bits.Goals as goal

pub returns-in-Some : goal.returns-in-Some
returns-in-Some c = c.bits_of.ensures ∙ sym (ap shown_bits c.in-Some.is)
