-- BETWEEN OUR OWN CRATES: serves inner contracts and proofs; nobody needs it to believe the public calls or the theorems.
-- A place of the output as a cursor. Assumes nothing.
use Rattle.std.specs.Prelude.{ℕ}
use Rattle.listing.specs.declared.Cursor.{Cursor}

-- no point has counts, so none lie before it
abbrev pub place : ℕ → Cursor
place n = record { place = n; pos = 0; neg = 0 }
