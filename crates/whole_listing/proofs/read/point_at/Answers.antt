-- `whole_listing::read::point_at` meets its contract. Assumes nothing.
use mathlib.Core.Path.{◌∙◌}
use native.Mathlib.Omega.{arith}
use lib.ListN.{length}
use Rattle.whole_listing.proofs.Calls.{nothing-there, words-there}
use Rattle.whole_listing.proofs.read.point_at.Goals as goal

pub returns-then-k-words : goal.returns-then-k-words
returns-then-k-words c =
    let a = c.args in
    nothing-there a.at a.words.now (length a.pos.now) (length a.neg.now) c.if-k-words.true

pub returns : goal.returns
returns c =
    let a = c.args in
    c.entry_in.ensures ∙ words-there a.at a.words.now (length a.pos.now) (length a.neg.now) (omega (arith, c.if-k-words.false))
