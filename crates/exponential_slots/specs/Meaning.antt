-- What a slot's cells mean: figures of a series of the exponential kind. Assumes nothing.
use Rattle.std.specs.Prelude.{ℕ, suc, Bool, ◌&&◌, List, [], leb, get_or, Float}
use Rattle.std.specs.Float.{nan}
use Rattle.laws.specs.Pick.{pick}
use Rattle.rows.specs.Parts.{part_at}
use Rattle.index.specs.Bins.{finest}
use Rattle.points.specs.Points.{Row}
use Rattle.points.specs.Values.{Summary}
use Rattle.points.specs.Figures.{exponential, Settings, settings_of, Counts, exponential_counts, Figures}
use Rattle.exponential.specs.Series.{read}
use Rattle.exponential_slots.specs.Cells.{Cells, counts_in}
use Rattle.laws.specs.Counting.{most_count}

-- The settings of the kind. The zero threshold is 0.0 (docs/DECISIONS.md: a point holds none).
abbrev pub settings : ℕ → ℕ → Bool → Bool → Settings
settings size top extremes sums = settings_of (exponential size top) extremes sums

-- the words are in shape: a count that is a u64, a level up to the finest, rows that lie within the slot's parts
unfoldable pub shaped : ℕ → List ℕ → Bool
shaped size f = leb (get_or f 0 0) most_count && (leb (get_or f 2 0) finest && (leb (get_or f 4 0) size && leb (get_or f 6 0) size))

-- Words out of shape are no series, a case of its own: an empty point one step below the last level that there is. No test of agreement
-- accepts it (the laws `shapeless-held` and `shapeless-handed`): "8: .. touched series disagrees with itself".
abbrev pub shapeless : Counts
shapeless =
    let none : Row = record { start = 0; counts = [] } in
    exponential_counts (record { d = suc finest; pos = none; neg = none; zeros = 0; total = 0 })

unfoldable pub counts_at : ℕ → List ℕ → List ℕ → List ℕ → Counts
counts_at size f xs ys = pick (shaped size f) (exponential_counts (read (counts_in f) xs ys)) shapeless

abbrev pub summary_in : List Float → Summary
summary_in m = record { min = get_or m 0 nan; max = get_or m 1 nan; sum = get_or m 2 nan }

-- the figures of slot x
abbrev pub series_at : ℕ → Cells → ℕ → Figures
series_at size c x =
    record {
      counts = counts_at size (get_or c.figures x []) (part_at size c.pos x) (part_at size c.neg x);
      summary = summary_in (get_or c.extremes x []);
    }
