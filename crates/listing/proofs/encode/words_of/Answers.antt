-- `listing::encode::words_of` meets its contract. Assumes nothing.
use Prim.Native.Nat.{ℕ, ◌+◌, ◌*◌}
use mathlib.Core.Path.{ap, ap₂, ◌∙◌}
use Rattle.point.specs.declared.Figures.TheVariants.{Exponential, Explicit}
use Rattle.laws.specs.Counting.{bit}
use Rattle.listing.proofs.Cases.{words-by}
use Rattle.listing.proofs.encode.words_of.Goals as goal

pub returns-in-Exponential : goal.returns-in-Exponential
returns-in-Exponential c =
    words-by c.args.p c.args.b _ _ _ _
    (ap₂ (λ (x y : ℕ). x + 2 * y) c.from.ensures (c.from-2.ensures ∙ ap bit c.is_some.ensures))
    c.shown_bits-low.ensures c.shown_bits-high.ensures c.bits_of-sum.ensures (Exponential _) c.in-Exponential.is

pub returns-in-Explicit : goal.returns-in-Explicit
returns-in-Explicit c =
    words-by c.args.p c.args.b _ _ _ _
    (ap₂ (λ (x y : ℕ). x + 2 * y) c.from.ensures (c.from-2.ensures ∙ ap bit c.is_some.ensures))
    c.shown_bits-low.ensures c.shown_bits-high.ensures c.bits_of-sum.ensures (Explicit _) c.in-Explicit.is
