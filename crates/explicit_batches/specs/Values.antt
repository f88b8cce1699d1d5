-- BETWEEN OUR OWN CRATES: serves inner contracts and proofs; nobody needs it to believe the public calls or the theorems.
-- Values one after another into a series of the explicit kind, its head by value. Assumes nothing.
use Rattle.std.specs.Prelude.{ℕ, ◌≤◌, ◌≡◌, true, List, leb, length, Float}
use Rattle.std.specs.Float.Ieee.Scale.{finite}
use Rattle.laws.specs.Pick.{pick}
use Rattle.laws.specs.Said.{Said, refusal, success, number}
use Rattle.laws.specs.Counting.{most_count}
use Rattle.rows.specs.Recording.{Recording, after}
use Rattle.points.specs.Explicit.{bucket_count, buckets_agree}
use Rattle.explicit.specs.declared.Head.{Head}
use Rattle.explicit.specs.Series.{buckets_in, recording}

-- a series as the code holds it: its head and its lent row
pub record Series : Type 0 where
  pub head : Head
  pub counts : List ℕ

-- as a contract writes it
abbrev pub series : Head → List ℕ → Series
series h counts = record { head = h; counts = counts }

-- the head that a call leaves: a refused one leaves the old
abbrev pub head_after : {Head : Type 0} → Said Head → Head → Head
head_after (success h) old = h
head_after (refusal n) old = old

-- a value more: what `explicit` says of it
unfoldable pub step : List Float → Series → Float → Recording Series
step bounds s v =
    let o = recording bounds s.head s.counts v in
    after (number o.answer) (record { head = head_after o.answer s.head; counts = o.counts })

-- counts that agree, in a row that is long enough
pub record Counted (bounds : List Float) (count : ℕ) (xs : List ℕ) : Type 0 where
  pub agree : buckets_agree bounds (buckets_in bounds count xs) ≡ true
  pub long : bucket_count bounds ≤ length xs

-- a series that agrees
pub record Sound (bounds : List Float) (s : Series) : Type 0 where
  pub counted : Counted bounds s.head.count s.counts
  pub min : finite s.head.min ≡ true
  pub max : finite s.head.max ≡ true

-- the number that refuses a value in such a series: of "12, 6, 5, 8, 9" 6 and 9 are left
unfoldable pub barring : ℕ → Float → ℕ
barring count v = pick (finite v) (pick (leb most_count count) 9 0) 6
