-- A histogram's point in lent output, and as it is read from there: the same for both kinds. Assumes nothing.
use Rattle.std.specs.Prelude.{ℕ, ◌≡◌, Bool, true, List, [], length, get_or, Float}
use Rattle.std.proofs.Math.Option.{map}
use Rattle.std.specs.Float.{nan, binary64}
use Rattle.std.specs.Float.Ieee.{fits}
use Rattle.kinds.specs.Histograms.{histograms}
use Rattle.point.specs.Handing.{handed_in}
use Rattle.point.specs.declared.Point.{Point}
use Rattle.value_map.specs.Store.{Store}
use Rattle.listing.specs.Words.{words_of}
use Rattle.listing.specs.Listed.{found_at}
use Rattle.listing.specs.declared.Span.{Span}
use Rattle.collecting.specs.Lister.{Lister}

-- the bounds of every point lie at the front of the store of bounds, all of them
abbrev pub span_of : List Float → Span
span_of bounds = record { start = 0; len = length bounds }

-- a store of rows of f64s that can be lent
abbrev pub AllFit : List (List Float) → Type 0
AllFit rows = (x i : ℕ) → fits binary64 (get_or (get_or rows x []) i nan) ≡ true

-- THE LISTER of a histogram kind, made of: its cells' rows of f64s, the bounds of its points, a slot's point under the switches, and the point's
-- counts in either store. A point is read back with its bounds, which lie in a store beside the list
abbrev pub histogram_lister : (S : Store histograms) → (S.Cells → List (List Float)) → List Float → (S.Switches → S.Cells → ℕ → Bool → Point)
    → (pos neg : S.Cells → ℕ → Bool → List ℕ) → Lister S
histogram_lister S floats bounds point pos neg =
    record {
      Lent = λ c. AllFit (floats c);
      words = λ w c x u. words_of (point w c x u) (span_of bounds);
      pos = pos;
      neg = neg;
      found = λ at o. map (λ x. (handed_in x.0, x.1)) (found_at bounds at o);
    }
