-- BETWEEN OUR OWN CRATES: serves inner contracts and proofs; nobody needs it to believe the public calls or the theorems.
-- Values one after another into a series of the explicit kind over i64, its head by value. Assumes nothing.
use Rattle.std.specs.Prelude.{ℕ, ◌+◌, Bool, List, leb, ℤ, Float}
use Rattle.laws.specs.Pick.{pick}
use Rattle.laws.specs.Said.{number}
use Rattle.laws.specs.Counting.{most_count}
use Rattle.integers.specs.Answers.{in_range}
use Rattle.rows.specs.Recording.{Recording, after}
use Rattle.points.specs.Any.{noted}
use Rattle.points.specs.Whole.{whole}
use Rattle.explicit_wholes.specs.declared.Head.{Head}
use Rattle.explicit_wholes.specs.Series.{Outcome, head_of, summary, recording}
use Rattle.explicit_batches.specs.Values.{head_after}

-- a series as the code holds it: its head and its lent row
pub record Series : Type 0 where
  pub head : Head
  pub counts : List ℕ

-- as a contract writes it
abbrev pub series : Head → List ℕ → Series
series h counts = record { head = h; counts = counts }

-- what a call's outcome leaves of a series
abbrev pub leaving : Series → Outcome → Recording Series
leaving s o = after (number o.answer) (record { head = head_after o.answer s.head; counts = o.counts })

-- a value more: what `explicit_wholes` says of it. No i64 is refused with 6
unfoldable pub step : List Float → Bool → Series → ℤ → Recording Series
step bounds sums s v = pick (in_range v) (leaving s (recording bounds sums s.head s.counts v)) (after 6 s)

-- the head of a series that agrees with a value more: of "12, 5, 8, 9, 16" 9 and 16 are left
unfoldable pub raising : Bool → Head → ℤ → Recording Head
raising sums h v =
    pick (leb most_count h.count) (after 9 h)
    (pick (whole.takes sums h.sum v) (after 0 (head_of (h.count + 1) (noted whole sums (summary h) v))) (after 16 h))
