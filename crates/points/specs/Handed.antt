-- A point of f64 values as it is handed out: of either kind, with its switch and zero threshold, extremes that it has or has not, and its
-- sum; and merging such points. Assumes nothing.
use Rattle.std.specs.Prelude.{ℕ, ◌+◌, Bool, ◌&&◌, List, leb, Float, Option}
use Rattle.laws.specs.Counting.{most_count}
use Rattle.index.specs.Bins.{finest, lowest_bin}
pub use Rattle.points.specs.Counts.{count_of, same_kind, merge_counts, counts_agree, size_asked, pos_of, neg_of}
pub use Rattle.points.specs.Real.{finite_or_none}
use Rattle.points.specs.Figures.{Settings, Figures}
use Rattle.points.specs.Counts.{merge_number}
use Rattle.points.specs.Any
use Rattle.points.specs.Real.{real}

abbrev pub Handed : Type 0
Handed = Any.Handed real

abbrev pub handed_out : Settings → Figures → Handed
handed_out = Any.handed_out real

-- the point of a list of values
unfoldable pub handed : Settings → List Float → Handed
handed s vs = Any.handed real s vs

unfoldable pub mergeable : Handed → Handed → Bool
mergeable p q = Any.mergeable real p q

unfoldable pub merge_handed : ℕ → Handed → Handed → Handed
merge_handed size p q = Any.merge_handed real size p q

abbrev pub shown_as_due : Bool → Option Float → Option Float → Bool
shown_as_due = Any.shown_as_due real

abbrev pub extremes_agree : Bool → Option Float → Option Float → Bool
extremes_agree = Any.extremes_agree real

abbrev pub shown_agrees : Handed → Bool
shown_agrees = Any.shown_agrees real

unfoldable pub handed_agrees : ℕ → ℕ → ℕ → Handed → Bool
handed_agrees size top low p = Any.handed_agrees real size top low p

-- `there`: what the points are read from is a point's, or it is 8. "scale is -10 to max_scale (10 in a merge)". No sum is refused
unfoldable pub unmergeable : ℕ → Bool → Handed → Handed → ℕ
unmergeable size there p q =
    let ok : Handed → Bool = handed_agrees size finest (lowest_bin finest) in
    merge_number (size_asked size p.counts q.counts) (there && (ok p && ok q)) (mergeable p q)
    (leb (count_of p.counts + count_of q.counts) most_count) 0
