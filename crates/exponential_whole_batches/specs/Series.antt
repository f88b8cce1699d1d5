-- BETWEEN OUR OWN CRATES: serves inner contracts and proofs; nobody needs it to believe the public calls or the theorems.
-- A series over i64 as the code holds it, its head by value beside two lent rows, and one value more. Assumes nothing.
use Rattle.std.specs.Prelude.{ℕ, ◌≤◌, ◌≡◌, Bool, true, List, ℤ, length}
use Rattle.laws.specs.Pick.{pick}
use Rattle.laws.specs.Said.{Said, refusal, success, number}
use Rattle.integers.specs.Answers.{in_range}
use Rattle.rows.specs.Recording.{Recording, after}
use Rattle.exponential.specs.Series.{agrees}
use Rattle.exponential_wholes.specs.declared.Head.{Head}
use Rattle.exponential_wholes.specs.Series.{Outcome, recording}

pub record Series : Type 0 where
  pub head : Head
  pub pos : List ℕ
  pub neg : List ℕ

-- as a contract writes it
abbrev pub series : Head → List ℕ → List ℕ → Series
series h pos neg = record { head = h; pos = pos; neg = neg }

-- a series that agrees, over rows that are long enough: 12 and 8 do not come up
pub record Sound (size top : ℕ) (s : Series) : Type 0 where
  pub agree : agrees size top s.head.counts s.pos s.neg ≡ true
  pub pos : size ≤ length s.pos
  pub neg : size ≤ length s.neg

-- a refused call leaves the old head
abbrev pub head_after : Said Head → Head → Head
head_after (success h) old = h
head_after (refusal n) old = old

-- what a call's outcome leaves of the series
abbrev pub leaving : Series → Outcome → Recording Series
leaving s o = after (number o.answer) (record { head = head_after o.answer s.head; pos = o.pos; neg = o.neg })

-- `exponential_wholes::record` of one value. A number that is no i64 would be refused with 6, as the kind has it; the code meets none
unfoldable pub step : ℕ → ℕ → Bool → Series → ℤ → Recording Series
step size top sums s v = pick (in_range v) (leaving s (recording size top sums s.head s.pos s.neg v)) (after 6 s)
