-- What is configured, and the counts of either kind, whatever the values are besides their f64. Assumes nothing.
use Rattle.std.specs.Prelude.{ℕ, ◌-◌, ◌≡◌, Bool, true, false, ◌&&◌, List, [], leb, Float}
use Rattle.laws.specs.Pick.{pick}
use Rattle.index.specs.Bins.{finest}
use Rattle.floats.specs.Starts.{zero_float}
use Rattle.points.specs.Points.{Point, record1, merge}
use Rattle.points.specs.Agreement.{agrees}
use Rattle.points.specs.Classes.{class_of, counts_of}
use Rattle.points.specs.Explicit.{Buckets, buckets_of, record_bucket, same_bounds, merge_buckets, buckets_agree}

-- what is configured: the kind with its max_size and greatest level, or with its bounds; the two switches; the zero threshold
pub data Kind : Type 0 where
  exponential : ℕ → ℕ → Kind
  explicit : List Float → Kind

-- "1: max_size outside 3 to 160"
abbrev pub most_size : ℕ
most_size = 160

abbrev pub size_passes : ℕ → Bool
size_passes size = leb 3 size && leb size most_size

pub record Settings : Type 0 where
  pub kind : Kind
  pub extremes : Bool
  pub sums : Bool
  pub threshold : Float

-- a kind under two switches; the zero threshold is 0.0
abbrev pub settings_of : Kind → Bool → Bool → Settings
settings_of k extremes sums = record { kind = k; extremes = extremes; sums = sums; threshold = zero_float }

-- the counts of either kind; the case is the kind's tag
pub data Counts : Type 0 where
  exponential_counts : Point → Counts
  explicit_counts : List Float → Buckets → Counts

-- of a list of values
abbrev pub kind_counts : Kind → Float → List Float → Counts
kind_counts (exponential size top) threshold vs = exponential_counts (counts_of size (finest - top) threshold vs)
kind_counts (explicit bounds) threshold vs = explicit_counts bounds (buckets_of bounds vs)

-- one value recorded, under the configured bounds; counts of the other kind are never met, and stay
abbrev pub record_counts : Kind → Float → Counts → Float → Counts
record_counts (exponential size top) threshold (exponential_counts p) v = exponential_counts (record1 size p (class_of threshold v))
record_counts (exponential size top) threshold (explicit_counts b p) v = explicit_counts b p
record_counts (explicit bounds) threshold (exponential_counts p) v = exponential_counts p
record_counts (explicit bounds) threshold (explicit_counts b p) v = explicit_counts bounds (record_bucket bounds p v)

-- the count of values
abbrev pub count_of : Counts → ℕ
count_of (exponential_counts p) = p.total
count_of (explicit_counts b p) = p.total

-- ---- merging

-- number 11 is given for "points of different kind, bounds (as numbers), or min/max switch"
abbrev pub same_kind : Counts → Counts → Bool
same_kind (exponential_counts p) (exponential_counts q) = true
same_kind (exponential_counts p) (explicit_counts c q) = false
same_kind (explicit_counts b p) (exponential_counts q) = false
same_kind (explicit_counts b p) (explicit_counts c q) = same_bounds b c

-- under a max_size; the first's bounds stay. Points of unlike kinds are refused: their merge has no meaning
abbrev pub merge_counts : ℕ → Counts → Counts → Counts
merge_counts size (exponential_counts p) (exponential_counts q) = exponential_counts (merge size p q)
merge_counts size (exponential_counts p) (explicit_counts c q) = exponential_counts p
merge_counts size (explicit_counts b p) (exponential_counts q) = explicit_counts b p
merge_counts size (explicit_counts b p) (explicit_counts c q) = explicit_counts b (merge_buckets p q)

-- under a max_size, a greatest level (the finest in a merge) and the lowest finest bin
abbrev pub counts_agree : ℕ → ℕ → ℕ → Counts → Bool
counts_agree size top low (exponential_counts p) = agrees size top low p
counts_agree size top low (explicit_counts b p) = buckets_agree b p

-- "A merge checks 1 unless both points are explicit"
abbrev pub size_asked : ℕ → Counts → Counts → Bool
size_asked size (exponential_counts p) c = size_passes size
size_asked size (explicit_counts b p) (exponential_counts q) = size_passes size
size_asked size (explicit_counts b p) (explicit_counts c q) = true

-- "Merging: 1, 8, 11, 9, 10", and 16 after 9: the number but for 10, which the lent output decides; 0 if none. By whether the size passes where
-- it is asked, both points agree, they are alike, and their counts together are one; and the number of the sum
abbrev pub merge_number : Bool → Bool → Bool → Bool → ℕ → ℕ
merge_number sized agreed alike few sum = pick sized (pick agreed (pick alike (pick few sum 9) 11) 8) 1

-- ---- the counts that a point takes in each of "two lent stores of u64, positive and negative"; explicit: all in the first

abbrev pub pos_of : Counts → List ℕ
pos_of (exponential_counts p) = p.pos.counts
pos_of (explicit_counts b p) = p.counts

abbrev pub neg_of : Counts → List ℕ
neg_of (exponential_counts p) = p.neg.counts
neg_of (explicit_counts b p) = []

-- ---- kinds

-- the kind under another max_size
abbrev pub resized : ℕ → Kind → Kind
resized size (exponential m top) = exponential size top
resized size (explicit bounds) = explicit bounds

-- counts of the kind, with its bounds
abbrev pub Shape : Kind → Counts → Type 0
Shape (exponential size top) (exponential_counts p) = Unit {0}
Shape (exponential size top) (explicit_counts bounds p) = ⊥
Shape (explicit b) (exponential_counts p) = ⊥
Shape (explicit b) (explicit_counts bounds p) = bounds ≡ b
