-- BETWEEN OUR OWN CRATES: serves inner contracts and proofs; nobody needs it to believe the public calls or the theorems.
-- A value that enters a slot's row, in the row's own place. Assumes nothing.
use Rattle.std.specs.Prelude.{ℕ, Bool, List, replicate, Float}
use Rattle.laws.specs.Pick.{pick}
use Rattle.laws.specs.Over.{over}
use Rattle.laws.specs.Said.{refusal}
use Rattle.points.specs.Explicit.{bucket_count, bounds_pass}
use Rattle.explicit.specs.declared.Head.{Head}
use Rattle.explicit.specs.Series.{Outcome, outcome, fresh_head, recording}

-- a first value: what lay in the row before plays no part
unfoldable pub begun : List Float → List ℕ → Float → Outcome
begun bounds xs v = recording bounds fresh_head (over (replicate (bucket_count bounds) 0) xs) v

-- an entry that was not updated counts as fresh; 8 where configuring could not have accepted the bounds
unfoldable pub entering : List Float → Bool → Head → List ℕ → Float → Outcome
entering bounds updated h xs v =
    pick updated (recording bounds h xs v) (pick (bounds_pass bounds) (begun bounds xs v) (outcome (refusal 8) xs))
