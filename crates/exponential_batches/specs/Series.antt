-- BETWEEN OUR OWN CRATES: serves inner contracts and proofs; nobody needs it to believe the public calls or the theorems.
-- A value recorded into a series that agrees, as the loop over many values sees it: a head by value and two lent rows. Assumes nothing.
use Rattle.std.specs.Prelude.{ℕ, ◌≤◌, ◌≡◌, true, List, eqb, length, Float}
use Rattle.std.specs.Float.Ieee.Scale.{finite}
use Rattle.laws.specs.Pick.{pick}
use Rattle.laws.specs.Said.{number}
use Rattle.laws.specs.Counting.{most_count}
use Rattle.rows.specs.Recording.{Recording}
use Rattle.rows.specs.Recording as R
use Rattle.exponential.specs.declared.Head.{Head}
use Rattle.exponential.specs.Series.{agrees, recording}
use Rattle.exponential.specs.Inner.{Series, after}

-- as a contract writes it: the head, and both lent rows
abbrev pub series : Head → List ℕ → List ℕ → Series
series h pos neg = record { head = h; pos = pos; neg = neg }

-- a series that agrees, over rows that are long enough: neither 12 nor 8 comes up
pub record Sound (size top : ℕ) (s : Series) : Type 0 where
  pub agree : agrees size top s.head.counts s.pos s.neg ≡ true
  pub min : finite s.head.min ≡ true
  pub max : finite s.head.max ≡ true
  pub pos : size ≤ length s.pos
  pub neg : size ≤ length s.neg

-- the number that is left to ask for: 6 unless the value is finite, 9 if the count is full
unfoldable pub left_to_ask : Head → Float → ℕ
left_to_ask h v = pick (finite v) (pick (eqb h.counts.count most_count) 9 0) 6

-- `recording`: its number, and the series then
unfoldable pub step : ℕ → ℕ → Series → Float → Recording Series
step size top s v = let o = recording size top s.head s.pos s.neg v in R.after (number o.answer) (after o s)
