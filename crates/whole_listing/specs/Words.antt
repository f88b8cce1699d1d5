-- A point of i64 values as twelve words, and back: docs/LIST.md says which word is what. Its figures are written as those of an f64 point.
-- Assumes nothing.
use Rattle.std.specs.Prelude.{ℕ, ◌+◌, ◌-◌, ◌*◌, ◌%◌, Bool, List, [], ◌∷◌, ◌++◌, leb, eqb, get_or, Option, Some, None, ℤ}
use Rattle.laws.specs.Pick.{pick}
use Rattle.laws.specs.Counting.{bit}
use Rattle.sets.specs.All.{allb}
use Rattle.integers.specs.Answers.{is_shown, bits_of, of_bits}
use Rattle.whole_point.specs.declared.Point.{Point}
use Rattle.listing.specs.Words as F
use Rattle.listing.specs.Words.{figures_words, figures_in}
use Rattle.listing.specs.declared.Span.{Span}

-- ---- written

-- the bits of an extreme, two's complement; 0 where it is not shown
abbrev pub shown_bits : Option ℤ → ℕ
shown_bits None = 0
shown_bits (Some x) = bits_of x

-- word 0 is the kind, 2 more than that of f64: 2 exponential, 3 explicit
abbrev pub raised : List ℕ → List ℕ
raised [] = []
raised (kind ∷ ws) = (kind + 2) ∷ ws

-- the figures and where the bounds lie, as f64's; then the flags (1: the min/max switch is on; 2 more: extremes are shown), the bits of minimum,
-- maximum and sum
abbrev pub words_of : Point → Span → List ℕ
words_of p b =
    raised (figures_words p.figures b)
    ++ ((bit p.extremes + 2 * bit (is_shown p.min)) ∷ shown_bits p.min ∷ shown_bits p.max ∷ bits_of p.sum ∷ [])

-- ---- read

-- the words of the shadow, the f64 point with the same figures: the kind 2 less, and 0 for every number
abbrev pub shadow_words : List ℕ → List ℕ
shadow_words w =
    (get_or w 0 0 - 2) ∷ get_or w 1 0 ∷ get_or w 2 0 ∷ get_or w 3 0 ∷ get_or w 4 0 ∷ get_or w 5 0 ∷ get_or w 6 0 ∷ get_or w 7 0 ∷ get_or w 8 0 ∷ 0 ∷ 0 ∷ 0 ∷ []

unfoldable pub bounds_in : List ℕ → Span
bounds_in w = F.bounds_in (shadow_words w)

unfoldable pub extreme_in : Bool → ℕ → Option ℤ
extreme_in shown bits = pick shown (Some (of_bits bits)) None

unfoldable pub point_in : List ℕ → Point
point_in w =
    record {
      figures = figures_in (shadow_words w);
      extremes = eqb (get_or w 8 0 % 2) 1;
      min = extreme_in (leb 2 (get_or w 8 0)) (get_or w 9 0);
      max = extreme_in (leb 2 (get_or w 8 0)) (get_or w 10 0);
      sum = of_bits (get_or w 11 0);
    }

-- words are a point's if the point that they read as is written as these words, and then only
unfoldable pub is_point : List ℕ → Bool
is_point w = allb 12 (λ i. eqb (get_or (words_of (point_in w) (bounds_in w)) i 0) (get_or w i 0))
