-- A series in a head and two lent rows: what it holds, when it agrees with itself, what recording does. Assumes nothing.
use Rattle.std.specs.Prelude.{ℕ, ◌-◌, Bool, ◌&&◌, List, length, take, ◌==◌, nat_le, Float}
use Rattle.std.specs.Float.Ieee.Scale.{finite}
use Rattle.laws.specs.Pick.{pick}
use Rattle.laws.specs.Said.{Said, refusal, success}
use Rattle.laws.specs.Counting.{most_count}
use Rattle.index.specs.Bins.{finest, lowest_bin}
use Rattle.floats.specs.Starts.{zero_float}
use Rattle.points.specs.Points as P
use Rattle.points.specs.Points.{Point, record1}
use Rattle.points.specs.Agreement as A
pub use Rattle.points.specs.Figures.{most_size, size_passes}
use Rattle.points.specs.Values.{class_of, Summary, noted}
use Rattle.laws.specs.Over.{over}
use Rattle.rows.specs.declared.Row.{Row}
use Rattle.exponential.specs.declared.Counts.{Counts}
use Rattle.exponential.specs.declared.Head.{Head}

-- the row that lies at the front of xs
abbrev pub row_in : Row → List ℕ → P.Row
row_in r xs = record { start = r.start; counts = take r.len xs }

-- ---- what a head and its rows hold, and a point as a head

abbrev pub read : Counts → List ℕ → List ℕ → Point
read c xs ys = record { d = finest - c.level; pos = row_in c.pos xs; neg = row_in c.neg ys; zeros = c.zeros; total = c.count }

abbrev pub counts_for : Point → Counts
counts_for p =
    record {
      count = p.total;
      zeros = p.zeros;
      level = finest - p.d;
      pos = record { start = p.pos.start; len = length p.pos.counts };
      neg = record { start = p.neg.start; len = length p.neg.counts };
    }

-- a head of counts and of a minimum, a maximum and a sum
abbrev pub head_of : Counts → Summary → Head
head_of c s = record { counts = c; min = s.min; max = s.max; sum = s.sum }

abbrev pub summary : Head → Summary
summary h = record { min = h.min; max = h.max; sum = h.sum }

-- ---- agreement

-- the lowest of all bins, that of 2 ^ -1074 at the finest level
abbrev pub lowest_of_all : ℕ
lowest_of_all = lowest_bin finest

-- size and greatest level could come from an accepted configuring, the counts are there, and what they make up agrees
unfoldable pub agrees : ℕ → ℕ → Counts → List ℕ → List ℕ → Bool
agrees size top c xs ys =
    size_passes size && (nat_le top finest && (nat_le c.level top
    && (nat_le c.pos.len (length xs) && (nat_le c.neg.len (length ys)
    && A.agrees size top lowest_of_all (read c xs ys)))))

-- ---- the call

-- document 01's number, for either kind: 12 unless the rows are long enough, 6 unless the value is finite, 8 unless the series agrees, 9 if its
-- count is full; 0 none
abbrev pub refusal_by : Bool → Bool → Bool → Bool → ℕ
refusal_by long finite agree full = pick long (pick finite (pick agree (pick full 9 0) 8) 6) 12

unfoldable pub refusal_of : ℕ → ℕ → Head → List ℕ → List ℕ → Float → ℕ
refusal_of size top h xs ys v =
    refusal_by (nat_le size (length xs) && nat_le size (length ys)) (finite v)
    (agrees size top h.counts xs ys && (finite h.min && finite h.max)) (h.counts.count == most_count)

-- the answer in document 01's words, and both rows afterwards
pub record Outcome : Type 0 where
  pub answer : Said Head
  pub pos : List ℕ
  pub neg : List ℕ

abbrev pub outcome : Said Head → List ℕ → List ℕ → Outcome
outcome r xs ys = record { answer = r; pos = xs; neg = ys }

-- the point p laid over the rows, with the head's minimum, maximum and sum one value on
abbrev pub accepted : Point → Head → List ℕ → List ℕ → Float → Outcome
accepted p h xs ys v = outcome (success (head_of (counts_for p) (noted (summary h) v))) (over p.pos.counts xs) (over p.neg.counts ys)

-- refused with a number, all as it was; or the point of what the series holds and the value, not above its level
unfoldable pub recording : ℕ → ℕ → Head → List ℕ → List ℕ → Float → Outcome
recording size top h xs ys v =
    pick (refusal_of size top h xs ys v == 0)
    (accepted (record1 size (read h.counts xs ys) (class_of zero_float v)) h xs ys v)
    (outcome (refusal (refusal_of size top h xs ys v)) xs ys)
