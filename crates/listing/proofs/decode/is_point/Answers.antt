-- `listing::decode::is_point` meets its contract. Assumes nothing.
use Prim.Native.Nat.{ℕ}
use mathlib.Core.Path.{ap, ap₂, ◌∙◌}
use mathlib.Core.List.{List}
use lib.Dec.{eqb}
use lib.ListN.{get_or}
use Rattle.sets.specs.All.{allb}
use Rattle.listing.specs.Words.{words_of, is_point}
use Rattle.listing.proofs.decode.is_point.Goals as goal

pub returns : goal.returns
unfolding is_point
returns c =
    c.same.ensures
    ∙ ap (λ (t : List ℕ). allb 12 (λ i. eqb (get_or t i 0) (get_or c.args.w i 0)))
    (c.words_of-again.ensures ∙ ap₂ words_of c.point_of-p.ensures c.bounds_of-b.ensures)
