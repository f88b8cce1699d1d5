-- `whole_listing::encode::with_numbers` meets its contract. Assumes nothing.
use mathlib.Core.Path.{ap, ◌∙◌}
use mathlib.Core.List.{[], ◌∷◌}
use Prim.Native.Nat.{◌+◌}
use lib.ListN.{get_or}
use Rattle.integers.specs.Answers.{bits_of}
use Rattle.integers.proofs.Range.{held}
use Rattle.whole_listing.proofs.encode.with_numbers.Goals as goal

pub returns : goal.returns
returns c =
    let b = c.bits_of-bits.ensures ∙ ap bits_of (held c.args.sum c.ranges.sum) in
    λ i.
    (get_or c.args.w 0 0 + 2) ∷ get_or c.args.w 1 0 ∷ get_or c.args.w 2 0 ∷ get_or c.args.w 3 0 ∷ get_or c.args.w 4 0 ∷ get_or c.args.w 5 0 ∷ get_or c.args.w 6 0 ∷ get_or c.args.w 7 0 ∷ get_or c.args.w 8 0
    ∷ c.shown_bits-low.ensures i ∷ c.shown_bits-high.ensures i ∷ b i ∷ []
