-- BETWEEN OUR OWN CRATES: serves inner contracts and proofs; nobody needs it to believe the public calls or the theorems.
-- What a survey reads of the cells, and what is put into the output for a point of the explicit kind over i64. Assumes nothing.
use Rattle.std.specs.Prelude.{ℕ, List, [], length, replicate, Float}
use Rattle.whole_point.specs.declared.Point.{Point}
use Rattle.explicit_whole_slots.specs.Cells.{Cells}
use Rattle.whole_listing.specs.Words.{words_of}
use Rattle.listing.specs.Listed.{Output}
use Rattle.listing.specs.Inner.{Put}
use Rattle.listing.specs.declared.Cursor.{Cursor}
use Rattle.collecting.specs.Read.{span_of}
use Rattle.explicit_collection.specs.Ready.{row_put}

-- the cells as far as agreement reads them: no extremes, for every i64 is finite
abbrev pub counting : List ℕ → List ℕ → Cells
counting totals counts = record { totals = totals; extremes = replicate (length totals) []; counts = counts }

-- a point put at a cursor with the first counts of a row, and the cursor behind it
abbrev pub point_put : List Float → Point → Cursor → List ℕ → List ℕ → Output → Put
point_put bounds p at row xs o = row_put bounds (words_of p (span_of bounds)) at row xs o
