-- BETWEEN OUR OWN CRATES: serves inner contracts and proofs; nobody needs it to believe the public calls or the theorems.
-- A point put at a cursor: the definitions of functions between our own crates. Assumes nothing.
use Rattle.std.specs.Prelude.{ℕ, ◌+◌, ◌≤◌, ◌<◌, ◌^◌, List, length}
use Rattle.point.specs.declared.Figures.{Figures}
use Rattle.listing.specs.declared.Cursor.{Cursor}
use Rattle.listing.specs.declared.Span.{Span}
use Rattle.listing.specs.Listed.{Output, neg_len, pos_len}

-- there is room for a point at a cursor, and the counts that it says are lent
pub record Room (at : Cursor) (f : Figures) (b : Span) (xs ys : List ℕ) (o : Output) : Type 0 where
  pub sets : at.place < length o.sets
  pub words : at.place < length o.words
  pub pos : at.pos + pos_len f b ≤ length o.pos
  pub neg : at.neg + neg_len f ≤ length o.neg
  pub lent : pos_len f b ≤ length xs
  pub lent_neg : neg_len f ≤ length ys

-- the next cursor, and the output afterwards
pub record Put : Type 0 where
  pub next : Cursor
  pub output : Output

abbrev pub left : Cursor → Output → Put
left c o = record { next = c; output = o }

-- the output goes on behind a point
abbrev pub Goes : Cursor → Figures → Span → Type 0
Goes at f b = (at.place + 1 < 2 ^ 64) × (at.pos + pos_len f b < 2 ^ 64) × (at.neg + neg_len f < 2 ^ 64)
