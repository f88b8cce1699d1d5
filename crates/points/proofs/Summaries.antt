-- Minimum, maximum and sum of lists: three folds, joined parts, another order. Assumes nothing.
use mathlib.Core.Path.{◌≡◌, refl, ap, sym, subst, ◌∙◌}
use mathlib.Core.Bool.{Bool, true, false}
use mathlib.Core.List.{List, [], ◌∷◌, ◌++◌, foldl, foldl-append, Permᴰ}
use lib.Ieee.{Float, binary64, add, eq}
use Rattle.laws.specs.Lists.{All}
use Rattle.laws.proofs.Lists.{all_map}
use Rattle.floats.specs.Answers.{lesser_of, greater_of}
use Rattle.floats.specs.Starts.{greatest_finite, least_finite, zero_float, FiniteF64}
use Rattle.floats.specs.Grid.{grid, exact_total, Gridded}
use Rattle.floats.proofs.Order.{Ok}
use Rattle.floats.proofs.Choices.{chosen, fold-parts, fold-perm}
use Rattle.floats.proofs.Starts as F
use Rattle.floats.proofs.Starts.{finite-ok, start-finite, fold-finite}
use Rattle.floats.proofs.Sums.{sum_is}
use Rattle.points.specs.Values.{Summary, start, noted, summary_of}

summary-from : (s : Summary) (vs : List Float)
    → foldl noted s vs ≡ record { min = foldl lesser_of s.min vs; max = foldl greater_of s.max vs; sum = foldl (add binary64) s.sum vs }
summary-from s [] = refl
summary-from s (v ∷ vs) = summary-from (noted s v) vs

-- THREE FOLDS
pub summary-is : (vs : List Float)
    → summary_of vs ≡ record { min = foldl lesser_of greatest_finite vs; max = foldl greater_of least_finite vs; sum = foldl (add binary64) zero_float vs }
summary-is = summary-from start

-- ONE BY ONE
pub summary_append : (vs : List Float) (v : Float) → summary_of (vs ++ v ∷ []) ≡ noted (summary_of vs) v
summary_append vs v = foldl-append noted start vs (v ∷ [])

pub ok-all : (vs : List Float) → All FiniteF64 vs → All (Ok binary64) vs
ok-all vs h = all_map FiniteF64 (Ok binary64) finite-ok vs h

-- ---- the extremes, once for both: up is the minimum, otherwise the maximum
abbrev pub extreme : Bool → Summary → Float
extreme true s = s.min
extreme false s = s.max

extreme-is : (up : Bool) (vs : List Float) → extreme up (summary_of vs) ≡ foldl (chosen up) (F.start up) vs
extreme-is true vs = ap (λ s. s.min) (summary-is vs)
extreme-is false vs = ap (λ s. s.max) (summary-is vs)

pub extreme-finite : (up : Bool) (vs : List Float) → All FiniteF64 vs → FiniteF64 (extreme up (summary_of vs))
extreme-finite up vs h = subst FiniteF64 (sym (extreme-is up vs)) (fold-finite up (F.start up) vs (start-finite up) h)

-- PARTS IN THEIR ORDER: the very float
pub extreme-parts : (up : Bool) (xs ys : List Float) → All FiniteF64 xs → All FiniteF64 ys
    → chosen up (extreme up (summary_of xs)) (extreme up (summary_of ys)) ≡ extreme up (summary_of (xs ++ ys))
extreme-parts up xs ys p q =
    rw (extreme-is up xs, extreme-is up ys, extreme-is up (xs ++ ys))
    (fold-parts up binary64 (F.start up) xs ys (finite-ok (F.start up) (start-finite up)) (ok-all xs p) (ok-all ys q))

-- IN ANOTHER ORDER: the same number
pub extreme-perm : (up : Bool) {xs ys : List Float} → Permᴰ xs ys → All FiniteF64 xs → eq (extreme up (summary_of xs)) (extreme up (summary_of ys)) ≡ true
extreme-perm up {xs} {ys} h p =
    rw (extreme-is up xs, extreme-is up ys)
    (fold-perm up binary64 (F.start up) h (finite-ok (F.start up) (start-finite up)) (ok-all xs p))

-- ---- the sum
pub sum-of : (vs : List Float) → Gridded vs → (summary_of vs).sum ≡ grid (exact_total vs)
sum-of vs g = ap (λ s. s.sum) (summary-is vs) ∙ sum_is vs g
