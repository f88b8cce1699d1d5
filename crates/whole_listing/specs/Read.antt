-- A point of i64 values in lent output, and as it is read from there: the same for both kinds. Assumes nothing.
use Rattle.std.specs.Prelude.{ℕ, ◌≡◌, Bool, true, List, [], ℤ, get_or, Float}
use Rattle.std.proofs.Math.Option.{map}
use Rattle.integers.specs.Answers.{in_range}
use Rattle.points.specs.Whole.{whole}
use Rattle.kinds.specs.Wholes.{wholes}
use Rattle.whole_point.specs.Handing.{handed_in}
use Rattle.whole_point.specs.declared.Point.{Point}
use Rattle.value_map.specs.Store.{Store}
use Rattle.collecting.specs.Lister.{Lister}
use Rattle.collecting.specs.Read.{span_of}
use Rattle.whole_listing.specs.Words.{words_of}
use Rattle.whole_listing.specs.Listed.{found_at}

-- a store of rows of i64s that can be lent
abbrev pub AllHeld : List (List ℤ) → Type 0
AllHeld rows = (x i : ℕ) → in_range (get_or (get_or rows x []) i whole.zero) ≡ true

-- THE LISTER of a kind over i64, made of: its cells' rows of i64s, the bounds of its points, a slot's point under the switches, and the point's
-- counts in either store. A point is read back with its bounds, which lie in a store beside the list
abbrev pub whole_lister : (S : Store wholes) → (S.Cells → List (List ℤ)) → List Float → (S.Switches → S.Cells → ℕ → Bool → Point)
    → (pos neg : S.Cells → ℕ → Bool → List ℕ) → Lister S
whole_lister S numbers bounds point pos neg =
    record {
      Lent = λ c. AllHeld (numbers c);
      words = λ w c x u. words_of (point w c x u) (span_of bounds);
      pos = pos;
      neg = neg;
      found = λ at o. map (λ x. (handed_in x.0, x.1)) (found_at bounds at o);
    }
