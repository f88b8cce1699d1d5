-- Points of i64 values as code holds them, read as those of crate `points`; and what merging two of them answers. Assumes nothing.
use Rattle.std.specs.Prelude.{ℕ, Bool, ◌&&◌, List, leb, eqb, ℤ, length, Float, Result}
use Rattle.laws.specs.Pick.{pick}
use Rattle.laws.specs.Said.{Said, refusal, success}
use Rattle.laws.specs.Over.{over}
use Rattle.index.specs.Bins.{finest, lowest_bin}
use Rattle.floats.specs.Starts.{zero_float}
use Rattle.integers.specs.Answers.{shown_of, smaller_of, larger_of}
use Rattle.points.specs.Counts.{most_size, size_asked, pos_of, neg_of}
use Rattle.points.specs.Any.{Summary, Handed, handed_agrees, merge_handed, unmergeable}
use Rattle.points.specs.Real.{real}
use Rattle.points.specs.Whole.{whole}
use Rattle.points.specs.Shadow.{shadow_of}
use Rattle.refusals.specs.declared.Refusal.{Refusal}
use Rattle.refusals.specs.Refusals.{said}
use Rattle.exponential_wholes.specs.declared.Head as H
use Rattle.exponential_wholes.specs.Series as Exponentials
use Rattle.explicit_wholes.specs.declared.Head as B
use Rattle.explicit_wholes.specs.Series as Explicits
use Rattle.point.specs.declared.Point as P
use Rattle.point.specs.declared.Figures.{Figures}
use Rattle.point.specs.declared.Figures.TheVariants.{Exponential, Explicit}
use Rattle.point.specs.Handing as Q
use Rattle.point.specs.Handing.{count_in, counts_as, figures_shaped, figures_for}
use Rattle.whole_point.specs.declared.Point.{Point}

-- ---- a point as it is stored

-- a point with its bounds and the rows that hold its counts
pub record Stored : Type 0 where
  pub point : Point
  pub bounds : List Float
  pub pos : List ℕ
  pub neg : List ℕ

abbrev pub stored_in : Point → List Float → List ℕ → List ℕ → Stored
stored_in p bs xs ys = record { point = p; bounds = bs; pos = xs; neg = ys }

-- as a contract writes it: a point and three lent slices, at entry or at exit
abbrev pub stored : Point → List Float → List ℕ → List ℕ → Stored
stored p bounds pos neg = stored_in p bounds pos neg

-- ---- as it reads; a point holds no zero threshold: it is 0.0
abbrev pub handed_in : Stored → Handed whole
handed_in x =
    record {
      counts = counts_as x.point.figures x.bounds x.pos x.neg;
      extremes = x.point.extremes;
      threshold = zero_float;
      min = x.point.min;
      max = x.point.max;
      sum = x.point.sum;
    }

abbrev pub in_shape : Stored → Bool
in_shape x = figures_shaped x.point.figures x.pos x.neg

-- ---- the point of a series: "with min/max off a point has neither, with the sum off it hands out 0"; at count 0 it has no extremes either
abbrev pub shown_point : Figures → Summary whole → Bool → Bool → Point
shown_point f m extremes sums =
    record {
      figures = f;
      extremes = extremes;
      min = shown_of extremes (count_in f) m.min;
      max = shown_of extremes (count_in f) m.max;
      sum = pick sums m.sum whole.zero;
    }

abbrev pub exponential_point : H.Head → Bool → Bool → Point
exponential_point h extremes sums = shown_point (Exponential h.counts) (Exponentials.summary h) extremes sums

abbrev pub explicit_point : B.Head → Bool → Bool → Point
explicit_point h extremes sums = shown_point (Explicit h.count) (Explicits.summary h) extremes sums

-- ---- the shadow: an f64 point with the same counts
abbrev pub shadow_point : Point → P.Point
shadow_point p = record { figures = p.figures; extremes = p.extremes; min = shadow_of p.min; max = shadow_of p.max; sum = zero_float }

abbrev pub shadow_stored : Stored → Q.Stored
shadow_stored x = Q.stored_in (shadow_point x.point) x.bounds x.pos x.neg

-- ---- merging

-- the answer, and both lent rows afterwards
pub record Outcome : Type 0 where
  pub answer : Said Stored
  pub pos : List ℕ
  pub neg : List ℕ

-- a merged point is stored with the first's bounds, its counts in the lent rows
abbrev pub ended : Said Point → List Float → List ℕ → List ℕ → Outcome
ended r bs us vs = record { answer = elim r [ refusal n ↦ refusal n | success p ↦ success (stored_in p bs us vs) ]; pos = us; neg = vs }

abbrev pub outcome : Result Point Refusal → List Float → List ℕ → List ℕ → Outcome
outcome r bounds pos neg = ended (said r) bounds pos neg

abbrev pub point_for : Handed whole → Point
point_for p = record { figures = figures_for p.counts; extremes = p.extremes; min = p.min; max = p.max; sum = p.sum }

-- a point laid over lent rows, or 10 where they have no room for its counts
unfoldable pub laid_over : Handed whole → List Float → List ℕ → List ℕ → Outcome
laid_over p bs us vs =
    pick (leb (length (pos_of p.counts)) (length us) && leb (length (neg_of p.counts)) (length vs))
    (ended (success (point_for p)) bs (over (pos_of p.counts) us) (over (neg_of p.counts) vs))
    (ended (refusal 10) bs us vs)

-- "Merging: 1, 8, 11, 9, 16, 10": the number but for 10, of what the points read as; 8 also of a point that is not in shape
unfoldable pub refusal_before : ℕ → Stored → Stored → ℕ
refusal_before size x y = unmergeable whole size (in_shape x && in_shape y) (handed_in x) (handed_in y)

-- refused with a number, all as it was; or the merge of what the points read as, laid over the lent rows, with the first's bounds
unfoldable pub merging : ℕ → Stored → Stored → List ℕ → List ℕ → Outcome
merging size x y us vs =
    pick (eqb (refusal_before size x y) 0)
    (laid_over (merge_handed whole size (handed_in x) (handed_in y)) x.bounds us vs)
    (ended (refusal (refusal_before size x y)) x.bounds us vs)

-- ---- beside f64: "An i64 point gives 11 merged with an f64 one and, right after 8, in a card or sheet"

unfoldable pub mixed_number : ℕ → Stored → Q.Stored → ℕ
mixed_number size x y =
    pick (size_asked size (handed_in x).counts (Q.handed_in y).counts)
    (pick ((in_shape x && Q.in_shape y) && (handed_agrees whole size finest (lowest_bin finest) (handed_in x) && handed_agrees real size finest (lowest_bin finest) (Q.handed_in y)))
    11
    8)
    1

unfoldable pub alone_number : Stored → ℕ
alone_number x = pick (in_shape x && handed_agrees whole most_size finest (lowest_bin finest) (handed_in x)) 11 8

-- ---- between functions

-- the merged point of counts that were merged
abbrev pub merged_of : Point → Point → ℤ → P.Point → Point
merged_of a b s p =
    record { figures = p.figures; extremes = a.extremes; min = smaller_of a.min b.min; max = larger_of a.max b.max; sum = s }

abbrev pub finished : Point → Point → ℤ → Said P.Point → Said Point
finished a b s (refusal n) = refusal n
finished a b s (success p) = success (merged_of a b s p)

-- the number beside an f64 point, of that of the shadow
abbrev pub beside_number : ℕ → ℕ
beside_number n = pick (eqb n 1) 1 (pick (eqb n 8) 8 11)
