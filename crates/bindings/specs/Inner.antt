-- BETWEEN OUR OWN CRATES: serves inner contracts and proofs; nobody needs it to believe the public calls or the theorems.
-- What a release needs of the entry that it found. Assumes nothing.
use Rattle.std.specs.Prelude.{ℕ, ◌<◌, List, [], length, get_or, Ok, Err, Result}

-- the slot that was found is there and has a binding
abbrev pub Bound : List (List ℕ) → Result ℕ ℕ → Type 0
Bound entries (Err r) = Unit
Bound entries (Ok x) = (x < length entries) × (0 < get_or (get_or entries x []) 1 0)
