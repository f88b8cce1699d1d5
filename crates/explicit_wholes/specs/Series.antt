-- A series of the explicit kind over i64 in a head and a lent row: what it holds, and what recording does. Assumes nothing.
use Rattle.std.specs.Prelude.{ℕ, Bool, List, leb, eqb, ℤ, length, replicate, Float}
use Rattle.laws.specs.Pick.{pick}
use Rattle.laws.specs.Said.{Said, refusal, success}
use Rattle.laws.specs.Over.{over}
use Rattle.floats.specs.Starts.{zero_float}
use Rattle.integers.specs.Answers.{nearest_of}
use Rattle.points.specs.Explicit.{Buckets, bucket_count, record_bucket}
use Rattle.points.specs.Any.{Summary, start, noted}
use Rattle.points.specs.Whole.{whole}
use Rattle.explicit.specs.declared.Head as F
use Rattle.explicit.specs.Series as E
use Rattle.explicit.specs.Series.{buckets_in}
use Rattle.explicit_wholes.specs.declared.Head.{Head}

-- a head of a count and of a minimum, a maximum and a sum
abbrev pub head_of : ℕ → Summary whole → Head
head_of count s = record { count = count; min = s.min; max = s.max; sum = s.sum }

abbrev pub summary : Head → Summary whole
summary h = record { min = h.min; max = h.max; sum = h.sum }

abbrev pub fresh_head : Head
fresh_head = head_of 0 (start whole)

-- the same count under a head of f64, whose extremes and sum are nobody's
abbrev pub under : ℕ → F.Head
under count = record { count = count; min = zero_float; max = zero_float; sum = zero_float }

-- document 01's number: 12, 8 and 9 as over f64, of the f64 nearest to the value, which is finite; then 16; 0 none
unfoldable pub refusal_of : List Float → Bool → Head → List ℕ → ℤ → ℕ
refusal_of bounds sums h xs v =
    let n = E.refusal_of bounds (under h.count) xs (nearest_of v) in
    pick (eqb n 0) (pick (whole.takes sums h.sum v) 0 16) n

-- the answer in document 01's words, and the row afterwards
pub record Outcome : Type 0 where
  pub answer : Said Head
  pub counts : List ℕ

abbrev pub outcome : Said Head → List ℕ → Outcome
outcome r xs = record { answer = r; counts = xs }

abbrev pub accepted : Buckets → Bool → Head → List ℕ → ℤ → Outcome
accepted p sums h xs v = outcome (success (head_of p.total (noted whole sums (summary h) v))) (over p.counts xs)

-- refused with a number, all as it was; or one more in the value's bucket
unfoldable pub recording : List Float → Bool → Head → List ℕ → ℤ → Outcome
recording bounds sums h xs v =
    pick (eqb (refusal_of bounds sums h xs v) 0)
    (accepted (record_bucket bounds (buckets_in bounds h.count xs) (nearest_of v)) sums h xs v)
    (outcome (refusal (refusal_of bounds sums h xs v)) xs)

-- a fresh series: zeros in its row, or 12 where the row is too short
unfoldable pub freshening : List Float → List ℕ → Outcome
freshening bounds xs =
    pick (leb (bucket_count bounds) (length xs))
    (outcome (success fresh_head) (over (replicate (bucket_count bounds) 0) xs))
    (outcome (refusal 12) xs)
