-- POINTS OVER ANY NUMBER: minimum, maximum and sum beside counts; what is handed out; merging; when points are the same and what they
-- stand for. Assumes nothing.
-- Document 01, "Bucket, scale and point".
use Rattle.std.specs.Prelude.{ℕ, ◌+◌, ◌≡◌, Bool, ◌&&◌, leb, Float}
use Rattle.std.specs.Bool.{beq}
use mathlib.Core.List.{List, foldl}
use Rattle.laws.specs.Pick.{pick}
use Rattle.laws.specs.Lists.{All}
use Rattle.laws.specs.Counting.{most_count}
use Rattle.index.specs.Bins.{finest, lowest_bin}
use Rattle.floats.specs.Answers.{shows}
use Rattle.points.specs.Counts.{Settings, Counts, kind_counts, record_counts, count_of, same_kind, merge_counts, counts_agree, size_asked, merge_number, Shape}
use Rattle.points.specs.Number.{Number}

module _ (N : Number) where
  -- ---- minimum, maximum and sum, the same for both kinds
  pub record Summary : Type 0 where
    pub min : N.Value
    pub max : N.Value
    pub sum : N.Value

  abbrev pub start : Summary
  start = record { min = N.greatest; max = N.least; sum = N.zero }

  -- a value more: "Zeros compare equal, so the zero held first stays"
  abbrev pub noted : Bool → Summary → N.Value → Summary
  noted sums s v = record { min = N.lesser s.min v; max = N.greater s.max v; sum = N.noted sums s.sum v }

  -- of a list, "in order of recording"
  abbrev pub summary_of : Bool → List N.Value → Summary
  summary_of sums = foldl (noted sums) start

  -- ---- what a series holds
  pub record Figures : Type 0 where
    pub counts : Counts
    pub summary : Summary

  abbrev pub figures_of : Settings → List N.Value → Figures
  figures_of s vs = record { counts = kind_counts s.kind s.threshold (N.nears vs); summary = summary_of s.sums vs }

  abbrev pub record_figures : Settings → Figures → N.Value → Figures
  record_figures s f v =
      record { counts = record_counts s.kind s.threshold f.counts (N.near v); summary = noted s.sums f.summary v }

  -- ---- a point as it is handed out
  pub record Handed : Type 0 where
    pub counts : Counts
    pub extremes : Bool
    pub threshold : Float
    pub min : N.Extreme
    pub max : N.Extreme
    pub sum : N.Value

  abbrev pub shown_if : Bool → N.Value → N.Extreme
  shown_if due x = pick due (N.value x) N.none

  -- "with min/max off a point has neither, with the sum off it hands out 0.0"; nor has it extremes at count 0
  abbrev pub handed_out : Settings → Figures → Handed
  handed_out s f =
      record {
        counts = f.counts;
        extremes = s.extremes;
        threshold = s.threshold;
        min = shown_if (shows s.extremes (count_of f.counts)) f.summary.min;
        max = shown_if (shows s.extremes (count_of f.counts)) f.summary.max;
        sum = pick s.sums f.summary.sum N.zero;
      }

  -- the point of a list of values
  abbrev pub handed : Settings → List N.Value → Handed
  handed s vs = handed_out s (figures_of s vs)

  -- ---- merging
  abbrev pub mergeable : Handed → Handed → Bool
  mergeable p q = same_kind p.counts q.counts && beq p.extremes q.extremes

  -- "takes the smaller min and larger max (equal: the first's), and adds the sums once"
  abbrev pub merge_handed : ℕ → Handed → Handed → Handed
  merge_handed size p q =
      record {
        counts = merge_counts size p.counts q.counts;
        extremes = p.extremes;
        threshold = p.threshold;
        min = N.smaller p.min q.min;
        max = N.larger p.max q.max;
        sum = N.add p.sum q.sum;
      }

  -- ---- agreement
  -- each is there just where it is due
  abbrev pub shown_as_due : Bool → N.Extreme → N.Extreme → Bool
  shown_as_due due min max = beq (N.is_shown min) due && beq (N.is_shown max) due

  -- the second line is document 02's, L4: "A point that shows an extreme at count 0 or with the switch off, or a point or series that lacks one
  -- above count 0 with it on, gives 8". A series holds two numbers and lacks none
  abbrev pub extremes_agree : Bool → N.Extreme → N.Extreme → Bool
  extremes_agree due min max =
      N.finite_or_none min max
      && shown_as_due due min max

  -- by the switch and the count
  abbrev pub shown_agrees : Handed → Bool
  shown_agrees p = extremes_agree (shows p.extremes (count_of p.counts)) p.min p.max

  abbrev pub handed_agrees : ℕ → ℕ → ℕ → Handed → Bool
  handed_agrees size top low p = counts_agree size top low p.counts && shown_agrees p

  -- `there`: what the points are read from is a point's, or it is 8. "scale is -10 to max_scale (10 in a merge)"
  abbrev pub unmergeable : ℕ → Bool → Handed → Handed → ℕ
  unmergeable size there p q =
      let ok : Handed → Bool = handed_agrees size finest (lowest_bin finest) in
      merge_number (size_asked size p.counts q.counts) (there && (ok p && ok q)) (mergeable p q)
      (leb (count_of p.counts + count_of q.counts) most_count) (N.beyond p.sum q.sum)

  -- ---- the same in all but the sum, a zero's sign in the extremes aside
  pub record Same (p q : Handed) : Type 0 where
    pub counts : p.counts ≡ q.counts
    pub extremes : p.extremes ≡ q.extremes
    pub threshold : p.threshold ≡ q.threshold
    pub min : N.SameExtreme p.min q.min
    pub max : N.SameExtreme p.max q.max

  -- the point with another sum
  abbrev pub with_sum : N.Value → Handed → Handed
  with_sum x p = record { counts = p.counts; extremes = p.extremes; threshold = p.threshold; min = p.min; max = p.max; sum = x }

  -- a point of the settings: its kind and bounds, switch and zero threshold, and extremes as the switch and its count have them of some numbers
  pub record Of (s : Settings) (p : Handed) : Type 0 where
    pub shape : Shape s.kind p.counts
    pub shown : Summary
    pub same : Same p (handed_out s (record { counts = p.counts; summary = shown }))

  -- ---- A POINT STANDS FOR VALUES: it has what document 01 defines from them, a zero's sign in its extremes aside, and the sum where that is said
  pub record Stands (s : Settings) (p : Handed) (vs : List N.Value) : Type 0 where
    pub values : All N.Known vs
    pub same : Same p (handed_out s (figures_of s vs))
    pub sum : N.SumStands s.sums p.sum vs
