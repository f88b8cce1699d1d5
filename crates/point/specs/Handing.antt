-- Points as code holds them, read as the points of crate `points`; and what merging two of them answers. Assumes nothing.
use Rattle.std.specs.Prelude.{ℕ, Bool, true, ◌&&◌, List, leb, eqb, length, Float, Result}
use Rattle.laws.specs.Pick.{pick}
use Rattle.laws.specs.Said.{Said, refusal, success}
use Rattle.laws.specs.Over.{over}
use Rattle.index.specs.Bins.{finest, lowest_bin}
use Rattle.floats.specs.Answers.{shown_of}
use Rattle.floats.specs.Starts.{zero_float}
use Rattle.points.specs.Figures as F
use Rattle.points.specs.Figures.{most_size, exponential_counts, explicit_counts}
use Rattle.points.specs.Handed.{Handed, merge_handed, handed_agrees, unmergeable, pos_of, neg_of}
use Rattle.exponential.specs.declared.Head as SH
use Rattle.exponential.specs.Series.{read, counts_for}
use Rattle.explicit.specs.declared.Head as BH
use Rattle.explicit.specs.Series.{buckets_in}
use Rattle.point.specs.declared.Point.{Point}
use Rattle.point.specs.declared.Figures.{Figures}
use Rattle.point.specs.declared.Figures.TheVariants.{Exponential, Explicit}
use Rattle.refusals.specs.declared.Refusal.{Refusal}
use Rattle.refusals.specs.Refusals.{said}

-- ---- a point as it is stored

-- a point with its bounds and the rows that hold its counts
pub record Stored : Type 0 where
  pub point : Point
  pub bounds : List Float
  pub pos : List ℕ
  pub neg : List ℕ

abbrev pub stored_in : Point → List Float → List ℕ → List ℕ → Stored
stored_in p bs xs ys = record { point = p; bounds = bs; pos = xs; neg = ys }

-- as a contract writes it: a point and three lent slices, at entry or at exit
abbrev pub stored : Point → List Float → List ℕ → List ℕ → Stored
stored p bounds pos neg = stored_in p bounds pos neg

-- ---- a stored point as it reads

abbrev pub counts_as : Figures → List Float → List ℕ → List ℕ → F.Counts
counts_as (Exponential c) bs xs ys = exponential_counts (read c xs ys)
counts_as (Explicit n) bs xs ys = explicit_counts bs (buckets_in bs n xs)

abbrev pub counts_in : Stored → F.Counts
counts_in x = counts_as x.point.figures x.bounds x.pos x.neg

-- the count of values, as it is held
abbrev pub count_in : Figures → ℕ
count_in (Exponential c) = c.count
count_in (Explicit n) = n

-- a point holds no zero threshold: it is 0.0
abbrev pub handed_in : Stored → Handed
handed_in x =
    record {
      counts = counts_in x;
      extremes = x.point.extremes;
      threshold = zero_float;
      min = x.point.min;
      max = x.point.max;
      sum = x.point.sum;
    }

-- the level is one, and the counts of both rows are there: what points read as can't say
abbrev pub figures_shaped : Figures → List ℕ → List ℕ → Bool
figures_shaped (Exponential c) xs ys = leb c.level finest && (leb c.pos.len (length xs) && leb c.neg.len (length ys))
figures_shaped (Explicit n) xs ys = true

abbrev pub in_shape : Stored → Bool
in_shape x = figures_shaped x.point.figures x.pos x.neg

-- a point by itself, with no merge's max_size, agrees "under size 160 and scale 10", the finest level (request L2; L5 and L10 ask the same)
unfoldable pub agrees_alone : Stored → Bool
agrees_alone x = in_shape x && handed_agrees most_size finest (lowest_bin finest) (handed_in x)

-- ---- the point of a series: "with min/max off a point has neither, with the sum off it hands out 0.0"; at count 0 it has no extremes either

abbrev pub shown_point : Figures → Float → Float → Float → Bool → Bool → Point
shown_point f min max sum extremes sums =
    record {
      figures = f;
      extremes = extremes;
      min = shown_of extremes (count_in f) min;
      max = shown_of extremes (count_in f) max;
      sum = pick sums sum zero_float;
    }

abbrev pub exponential_point : SH.Head → Bool → Bool → Point
exponential_point h extremes sums = shown_point (Exponential h.counts) h.min h.max h.sum extremes sums

abbrev pub explicit_point : BH.Head → Bool → Bool → Point
explicit_point h extremes sums = shown_point (Explicit h.count) h.min h.max h.sum extremes sums

-- ---- a point of crate `points` as code holds it, its counts beside it

abbrev pub figures_for : F.Counts → Figures
figures_for (exponential_counts p) = Exponential (counts_for p)
figures_for (explicit_counts b p) = Explicit p.total

abbrev pub point_for : Handed → Point
point_for p = record { figures = figures_for p.counts; extremes = p.extremes; min = p.min; max = p.max; sum = p.sum }

-- ---- merging

-- the answer, and both lent rows afterwards
pub record Outcome : Type 0 where
  pub answer : Said Stored
  pub pos : List ℕ
  pub neg : List ℕ

-- a merged point is stored with the first's bounds, its counts in the lent rows
abbrev pub ended : Said Point → List Float → List ℕ → List ℕ → Outcome
ended r bs us vs = record { answer = elim r [ refusal n ↦ refusal n | success p ↦ success (stored_in p bs us vs) ]; pos = us; neg = vs }

-- as a contract writes it: the answer, the first's bounds and the two lent rows
abbrev pub outcome : Result Point Refusal → List Float → List ℕ → List ℕ → Outcome
outcome r bounds pos neg = ended (said r) bounds pos neg

-- a point laid over lent rows, or 10 where they have no room for its counts
unfoldable pub laid_over : Handed → List Float → List ℕ → List ℕ → Outcome
laid_over p bs us vs =
    pick (leb (length (pos_of p.counts)) (length us) && leb (length (neg_of p.counts)) (length vs))
    (ended (success (point_for p)) bs (over (pos_of p.counts) us) (over (neg_of p.counts) vs))
    (ended (refusal 10) bs us vs)

-- the number but for 10, of what the points read as; 8 also of a point that is not in shape
unfoldable pub refusal_before : ℕ → Stored → Stored → ℕ
refusal_before size x y = unmergeable size (in_shape x && in_shape y) (handed_in x) (handed_in y)

-- refused with a number, all as it was; or the merge of what the points read as, laid over the lent rows, with the first's bounds
unfoldable pub merging : ℕ → Stored → Stored → List ℕ → List ℕ → Outcome
merging size x y us vs =
    pick (eqb (refusal_before size x y) 0)
    (laid_over (merge_handed size (handed_in x) (handed_in y)) x.bounds us vs)
    (ended (refusal (refusal_before size x y)) x.bounds us vs)
