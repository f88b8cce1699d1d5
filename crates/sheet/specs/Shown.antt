-- What is printed of a sheet, and what a line `s` says. `s` is the byte 115, `!` 33, a space 32. Assumes nothing.
use Rattle.std.specs.Prelude.{ℕ, ◌/◌, List, [], ◌∷◌, ◌++◌, leb, eqb, length, get_or, take, Option, Some, None}
use Rattle.laws.specs.Pick.{pick}
use Rattle.laws.specs.Said.{Said, refusal, success}
use Rattle.text.specs.Numbers.{decimal_of}
use Rattle.text.specs.Fields.{spaces_of, field_of}
use Rattle.lines.specs.Gathered.{Text, ◌behind◌}
use Rattle.lines.specs.Written.{decimal}
use Rattle.pooling.specs.Lists.{Source}
use Rattle.printing.specs.Fields.{line}
use Rattle.printing.specs.Printed.{collection_lines}
use Rattle.printing.specs.declared.Form.TheVariants.{Point}
use Rattle.sheet_writing.specs.Writing as Writing
use Rattle.sheet_reading.specs.Reading as Reading
use Rattle.sheet_reading.specs.declared.Listed.{Listed}
use Rattle.sheet.specs.Digits.{record_lines}

-- `! N`
unfoldable pub refusal_line : ℕ → List ℕ
refusal_line n = line ((33 ∷ []) ∷ decimal n ∷ [])

-- ---- a sheet that is written

-- `s RECORDS`, and a line for each record
unfoldable pub sheet_lines : List ℕ → List ℕ
sheet_lines bs = line ((115 ∷ []) ∷ decimal (length bs / 32) ∷ []) ++ record_lines (length bs / 32) bs

-- of a number of bytes at the front of the store
abbrev pub written_lines : Said ℕ → List ℕ → List ℕ
written_lines (refusal n) s = refusal_line n
written_lines (success size) s = sheet_lines (take size s)

-- the text, and the store of bytes
pub record Wrote : Type 0 where
  pub text : Text
  pub bytes : List ℕ

abbrev pub wrote : Text → List ℕ → Wrote
wrote t s = record { text = t; bytes = s }

abbrev pub wrote_by : Writing.Outcome → Text → Wrote
wrote_by o t = wrote (written_lines o.answer o.bytes behind t) o.bytes

-- ---- a sheet that is read

-- no sheet has more than 7297 records
abbrev pub few_in : Option ℕ → Option ℕ
few_in None = None
few_in (Some n) = pick (leb n 7297) (Some n) None

-- the RECORDS of a line `s RECORDS`
unfoldable pub records_of : List ℕ → Option ℕ
records_of bs =
    pick (eqb (get_or bs 0 0) 115)
    (pick (eqb (get_or bs 1 0) 32) (pick (eqb (spaces_of bs) 1) (few_in (decimal_of (field_of bs 1))) None) None)
    None

-- what the gauge prints of the list
abbrev pub list_lines : Said Listed → Source → List ℕ
list_lines (refusal n) x = refusal_line n
list_lines (success l) x = collection_lines Point l.header.start l.header.time l.points x.list x.bounds

-- the text, and the list
pub record Shown : Type 0 where
  pub text : Text
  pub list : Source

abbrev pub shown : Text → Source → Shown
shown t x = record { text = t; list = x }

abbrev pub shown_by : Reading.Outcome → Text → Shown
shown_by o t = shown (list_lines o.answer o.lent behind t) o.lent
