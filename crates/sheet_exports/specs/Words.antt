-- BETWEEN OUR OWN CRATES: serves inner contracts and proofs; nobody needs it to believe the public calls or the theorems.
-- What writing and reading a sheet comes to, as it is handed to programs in other languages. Assumes nothing.
use Rattle.std.specs.Prelude.{ℕ, List, [], ◌∷◌, set}
use Rattle.laws.specs.Counting.{bit}
use Rattle.laws.specs.Said.{Said, refusal, success, number}
use Rattle.pooling.specs.Lists.{Source}
use Rattle.sheet_writing.specs.Writing as Writing
use Rattle.sheet_reading.specs.Reading as Reading
use Rattle.sheet_reading.specs.declared.Listed.{Listed}

-- how many bytes were written
abbrev pub size_in : Said ℕ → ℕ
size_in (refusal n) = 0
size_in (success n) = n

-- the number, the size, and the lent bytes
pub record Put : Type 0 where
  pub number : ℕ
  pub size : List ℕ
  pub bytes : List ℕ

-- as a contract writes it
abbrev pub put : ℕ → List ℕ → List ℕ → Put
put n size out = record { number = n; size = size; bytes = out }

abbrev pub put_out : List ℕ → Writing.Outcome → Put
put_out size o = record { number = number o.answer; size = set size 0 (size_in o.answer); bytes = o.bytes }

-- start, time, temporality and how many points; zeros where nothing was read
abbrev pub header_in : Said Listed → List ℕ
header_in (refusal n) = 0 ∷ 0 ∷ 0 ∷ 0 ∷ []
header_in (success l) = l.header.start ∷ l.header.time ∷ bit l.header.delta ∷ l.points ∷ []

-- the number, these four, and the lent stores
pub record Got : Type 0 where
  pub number : ℕ
  pub header : List ℕ
  pub lent : Source

abbrev pub got : ℕ → List ℕ → Source → Got
got n header o = record { number = n; header = header; lent = o }

abbrev pub got_out : Reading.Outcome → Got
got_out o = record { number = number o.answer; header = header_in o.answer; lent = o.lent }
