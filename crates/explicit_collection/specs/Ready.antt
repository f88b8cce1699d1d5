-- BETWEEN OUR OWN CRATES: serves inner contracts and proofs; nobody needs it to believe the public calls or the theorems.
-- What is put into the output for a point of the explicit kind. Assumes nothing.
use Rattle.std.specs.Prelude.{ℕ, List, [], take, Float}
use Rattle.points.specs.Explicit.{bucket_count}
use Rattle.point.specs.declared.Point.{Point}
use Rattle.listing.specs.Words.{words_of}
use Rattle.listing.specs.Listed.{Output}
use Rattle.listing.specs.Inner.{Put, left}
use Rattle.listing.specs.declared.Cursor.{Cursor}
use Rattle.collecting.specs.Read.{span_of}
use Rattle.collecting.specs.Slots.{laid_at, behind_at}

-- a point's words put at a cursor with the first counts of a row, and the cursor behind it
abbrev pub row_put : List Float → List ℕ → Cursor → List ℕ → List ℕ → Output → Put
row_put bounds ws at row xs o = left (behind_at at (bucket_count bounds) 0) (laid_at at row ws (take (bucket_count bounds) xs) [] o)

abbrev pub point_put : List Float → Point → Cursor → List ℕ → List ℕ → Output → Put
point_put bounds p at row xs o = row_put bounds (words_of p (span_of bounds)) at row xs o
