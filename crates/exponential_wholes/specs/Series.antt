-- A series of the exponential kind over i64 in a head and two lent rows: what it holds, and what recording does. Assumes nothing.
use Rattle.std.specs.Prelude.{ℕ, Bool, List, eqb, ℤ}
use Rattle.laws.specs.Pick.{pick}
use Rattle.laws.specs.Said.{Said, refusal, success}
use Rattle.laws.specs.Over.{over}
use Rattle.floats.specs.Starts.{zero_float}
use Rattle.integers.specs.Answers.{nearest_of}
use Rattle.points.specs.Points.{Point, record1}
use Rattle.points.specs.Classes.{class_of}
use Rattle.points.specs.Any.{Summary, start, noted}
use Rattle.points.specs.Whole.{whole}
use Rattle.exponential.specs.declared.Counts.{Counts}
use Rattle.exponential.specs.declared.Head as F
use Rattle.exponential.specs.Series as E
use Rattle.exponential.specs.Series.{read, counts_for}
use Rattle.exponential_wholes.specs.declared.Head.{Head}

-- a head of counts and of a minimum, a maximum and a sum
abbrev pub head_of : Counts → Summary whole → Head
head_of c s = record { counts = c; min = s.min; max = s.max; sum = s.sum }

abbrev pub summary : Head → Summary whole
summary h = record { min = h.min; max = h.max; sum = h.sum }

-- the head of a fresh series
abbrev pub fresh_head : ℕ → Head
fresh_head top =
    head_of (record { count = 0; zeros = 0; level = top; pos = record { start = 0; len = 0 }; neg = record { start = 0; len = 0 } }) (start whole)

-- the same counts under a head of f64, whose extremes and sum are nobody's
abbrev pub under : Counts → F.Head
under c = record { counts = c; min = zero_float; max = zero_float; sum = zero_float }

-- ---- the call

-- document 01's number: 12, 8 and 9 as over f64, of the f64 nearest to the value, which is finite; then 16; 0 none
unfoldable pub refusal_of : ℕ → ℕ → Bool → Head → List ℕ → List ℕ → ℤ → ℕ
refusal_of size top sums h xs ys v =
    let n = E.refusal_of size top (under h.counts) xs ys (nearest_of v) in
    pick (eqb n 0) (pick (whole.takes sums h.sum v) 0 16) n

-- the answer in document 01's words, and both rows afterwards
pub record Outcome : Type 0 where
  pub answer : Said Head
  pub pos : List ℕ
  pub neg : List ℕ

abbrev pub outcome : Said Head → List ℕ → List ℕ → Outcome
outcome r xs ys = record { answer = r; pos = xs; neg = ys }

-- the point p laid over the rows, with the head's minimum, maximum and sum one value on
abbrev pub accepted : Point → Bool → Head → List ℕ → List ℕ → ℤ → Outcome
accepted p sums h xs ys v = outcome (success (head_of (counts_for p) (noted whole sums (summary h) v))) (over p.pos.counts xs) (over p.neg.counts ys)

-- refused with a number, all as it was; or the point of what the series holds and the value, not above its level
unfoldable pub recording : ℕ → ℕ → Bool → Head → List ℕ → List ℕ → ℤ → Outcome
recording size top sums h xs ys v =
    pick (eqb (refusal_of size top sums h xs ys v) 0)
    (accepted (record1 size (read h.counts xs ys) (class_of zero_float (nearest_of v))) sums h xs ys v)
    (outcome (refusal (refusal_of size top sums h xs ys v)) xs ys)
