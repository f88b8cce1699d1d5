-- A series of the explicit kind in a head and a lent row: what it holds, what recording does. Assumes nothing.
use Rattle.std.specs.Prelude.{ℕ, ◌&&◌, List, leb, eqb, length, take, replicate, Float}
use Rattle.std.specs.Float.Ieee.Scale.{finite}
use Rattle.laws.specs.Pick.{pick}
use Rattle.laws.specs.Said.{Said, refusal, success}
use Rattle.laws.specs.Over.{over}
use Rattle.exponential.specs.Series.{refusal_by}
use Rattle.points.specs.Explicit.{Buckets, bucket_count, record_bucket, buckets_agree}
use Rattle.points.specs.Values.{Summary, start, noted}
use Rattle.explicit.specs.declared.Head.{Head}
use Rattle.laws.specs.Counting.{most_count}

-- what a count and the front of a row hold
abbrev pub buckets_in : List Float → ℕ → List ℕ → Buckets
buckets_in bounds count xs = record { counts = take (bucket_count bounds) xs; total = count }

-- a head of a count and of a minimum, a maximum and a sum
abbrev pub head_of : ℕ → Summary → Head
head_of count s = record { count = count; min = s.min; max = s.max; sum = s.sum }

abbrev pub summary : Head → Summary
summary h = record { min = h.min; max = h.max; sum = h.sum }

abbrev pub fresh_head : Head
fresh_head = head_of 0 start

-- document 01's number, as of the exponential kind: 12 unless the row has a count for each bucket; 8 also where the bounds don't pass number 3
unfoldable pub refusal_of : List Float → Head → List ℕ → Float → ℕ
refusal_of bounds h xs v =
    refusal_by (leb (bucket_count bounds) (length xs)) (finite v)
    (buckets_agree bounds (buckets_in bounds h.count xs) && (finite h.min && finite h.max)) (leb most_count h.count)

-- the answer in document 01's words, and the row afterwards
pub record Outcome : Type 0 where
  pub answer : Said Head
  pub counts : List ℕ

abbrev pub outcome : Said Head → List ℕ → Outcome
outcome r xs = record { answer = r; counts = xs }

abbrev pub accepted : Buckets → Head → List ℕ → Float → Outcome
accepted p h xs v = outcome (success (head_of p.total (noted (summary h) v))) (over p.counts xs)

-- refused with a number, all as it was; or one more in the value's bucket
unfoldable pub recording : List Float → Head → List ℕ → Float → Outcome
recording bounds h xs v =
    pick (eqb (refusal_of bounds h xs v) 0)
    (accepted (record_bucket bounds (buckets_in bounds h.count xs) v) h xs v)
    (outcome (refusal (refusal_of bounds h xs v)) xs)

-- a fresh series: zeros in its row, or 12 where the row is too short
unfoldable pub freshening : List Float → List ℕ → Outcome
freshening bounds xs =
    pick (leb (bucket_count bounds) (length xs))
    (outcome (success fresh_head) (over (replicate (bucket_count bounds) 0) xs))
    (outcome (refusal 12) xs)
