-- BETWEEN OUR OWN CRATES: serves inner contracts and proofs; nobody needs it to believe the public calls or the theorems.
-- A point of i64 values written and read by its shadow: what the shadow's words do not tell. Assumes nothing.
use Rattle.std.specs.Prelude.{ℕ, ◌+◌, Bool, ◌&&◌, ◌||◌, List, [], ◌∷◌, leb, eqb, ℤ, get_or, Option, Some, None}
use Rattle.integers.specs.Answers.{bits_of, of_bits}
use Rattle.whole_listing.specs.declared.Entry.{Entry}
use Rattle.point.specs.declared.Point as P
use Rattle.whole_point.specs.declared.Point.{Point}
use Rattle.listing.specs.declared.Entry as LE
use Rattle.whole_listing.specs.Words.{shown_bits, extreme_in}

-- the words of a shadow with the kind 2 more and the bits of minimum, maximum and sum
abbrev pub with_numbers : List ℕ → Option ℤ → Option ℤ → ℤ → List ℕ
with_numbers w min max sum =
    (get_or w 0 0 + 2) ∷ get_or w 1 0 ∷ get_or w 2 0 ∷ get_or w 3 0 ∷ get_or w 4 0 ∷ get_or w 5 0 ∷ get_or w 6 0 ∷ get_or w 7 0 ∷ get_or w 8 0
    ∷ shown_bits min ∷ shown_bits max ∷ bits_of sum ∷ []

-- an extreme's word is 0 where it is not shown
abbrev pub blank : Bool → ℕ → Bool
blank shown bits = shown || eqb bits 0

-- the kind is 2 more than an f64 point's may be, and the extremes' words are as they may be
unfoldable pub own_words : List ℕ → Bool
own_words w = leb 2 (get_or w 0 0) && (blank (leb 2 (get_or w 8 0)) (get_or w 9 0) && blank (leb 2 (get_or w 8 0)) (get_or w 10 0))

-- the shadow with the numbers that the words tell
abbrev pub numbered : P.Point → List ℕ → Point
numbered q w =
    record {
      figures = q.figures;
      extremes = q.extremes;
      min = extreme_in (leb 2 (get_or w 8 0)) (get_or w 9 0);
      max = extreme_in (leb 2 (get_or w 8 0)) (get_or w 10 0);
      sum = of_bits (get_or w 11 0);
    }

-- what is found, of what is found of the shadow
abbrev pub numbered_found : List ℕ → Option LE.Entry → Option Entry
numbered_found w None = None
numbered_found w (Some e) = Some (record { point = numbered e.point w; bounds = e.bounds; next = e.next })
