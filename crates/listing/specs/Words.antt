-- A point as twelve words, and back: docs/LIST.md says which word is what. Assumes nothing.
use Rattle.std.specs.Prelude.{ℕ, ◌+◌, ◌*◌, ◌%◌, Bool, List, [], ◌∷◌, ◌++◌, leb, eqb, get_or, Option, Some, None, Float}
use Rattle.std.specs.Float.{binary64}
use Rattle.std.specs.Float.Ieee.{of_bits}
use Rattle.laws.specs.Pick.{pick}
use Rattle.laws.specs.Counting.{bit}
use Rattle.sets.specs.All.{allb}
use Rattle.floats.specs.Answers.{is_shown, bits_of}
use Rattle.point.specs.declared.Point.{Point}
use Rattle.point.specs.declared.Figures.{Figures}
use Rattle.point.specs.declared.Figures.TheVariants.{Exponential, Explicit}
use Rattle.listing.specs.declared.Span.{Span}

-- ---- written

-- the bits of an extreme, 0 where it is not shown
abbrev pub shown_bits : Option Float → ℕ
shown_bits None = 0
shown_bits (Some x) = bits_of x

-- kind, count, zero count, level, start and length of the positive and of the negative row; of the explicit kind its count, and where its
-- bounds lie: "Explicit points have bucket counts, no scale, rows or zero count"
abbrev pub figures_words : Figures → Span → List ℕ
figures_words (Exponential c) b =
    0 ∷ c.count ∷ c.zeros ∷ c.level ∷ c.pos.start ∷ c.pos.len ∷ c.neg.start ∷ c.neg.len ∷ []
figures_words (Explicit n) b = 1 ∷ n ∷ 0 ∷ 0 ∷ b.start ∷ b.len ∷ 0 ∷ 0 ∷ []

-- then the flags (1: the min/max switch is on; 2 more: extremes are shown), the bits of minimum, maximum and sum: "A NaN sum is handed
-- out as 7FF8000000000000"
abbrev pub words_of : Point → Span → List ℕ
words_of p b =
    figures_words p.figures b
    ++ ((bit p.extremes + 2 * bit (is_shown p.min)) ∷ shown_bits p.min ∷ shown_bits p.max ∷ bits_of p.sum ∷ [])

-- ---- read: level and starts are numbers of 32 bits

unfoldable pub figures_in : List ℕ → Figures
figures_in w =
    pick (eqb (get_or w 0 0) 0)
    (Exponential (record {
      count = get_or w 1 0;
      zeros = get_or w 2 0;
      level = get_or w 3 0 % 4294967296;
      pos = record { start = get_or w 4 0 % 4294967296; len = get_or w 5 0 };
      neg = record { start = get_or w 6 0 % 4294967296; len = get_or w 7 0 };
    }))
    (Explicit (get_or w 1 0))

-- an exponential point has no bounds
unfoldable pub bounds_in : List ℕ → Span
bounds_in w = pick (eqb (get_or w 0 0) 0) (record { start = 0; len = 0 }) (record { start = get_or w 4 0; len = get_or w 5 0 })

unfoldable pub extreme_in : Bool → ℕ → Option Float
extreme_in shown bits = pick shown (Some (of_bits binary64 bits)) None

unfoldable pub point_in : List ℕ → Point
point_in w =
    record {
      figures = figures_in w;
      extremes = eqb (get_or w 8 0 % 2) 1;
      min = extreme_in (leb 2 (get_or w 8 0)) (get_or w 9 0);
      max = extreme_in (leb 2 (get_or w 8 0)) (get_or w 10 0);
      sum = of_bits binary64 (get_or w 11 0);
    }

-- words are a point's if the point that they read as is written as these words, and then only
unfoldable pub is_point : List ℕ → Bool
is_point w = allb 12 (λ i. eqb (get_or (words_of (point_in w) (bounds_in w)) i 0) (get_or w i 0))
