-- What reading a sheet answers, and the list that it leaves in lent stores. Assumes nothing.
-- Document 02, L5: "the reader accepts that sheet only, and returns both bit for bit"; "15 for any sheet the writer could not have written, before 10".
use Rattle.std.specs.Prelude.{ℕ, List, length}
use Rattle.std.proofs.Math.Option.{none, some}
use Rattle.laws.specs.Pick.{pick}
use Rattle.laws.specs.Said.{Said, refusal, success}
use Rattle.pooling.specs.Lists.{Source}
use Rattle.sheets.specs.Sheet.{Sheet, read_sheet}
use Rattle.sheets.specs.Lists.{laid_out, roomy}
use Rattle.sheet_reading.specs.declared.Listed.{Listed}

-- the header and how many points, with the lent stores afterwards
pub record Outcome : Type 0 where
  pub answer : Said Listed
  pub lent : Source

abbrev pub ends : Said Listed → Source → Outcome
ends r o = record { answer = r; lent = o }

unfoldable pub reading_of : Sheet → Source → Outcome
reading_of t o =
    pick (roomy t.points o) (ends (success (record { header = t.header; points = length t.points })) (laid_out t.points o))
    (ends (refusal 10) o)

-- "15, 10": refused, all as it was
unfoldable pub reading : List ℕ → Source → Outcome
reading s o = elim (read_sheet s) [ none ↦ ends (refusal 15) o | some t ↦ reading_of t o ]
