-- BETWEEN OUR OWN CRATES: serves inner contracts and proofs; nobody needs it to believe the public calls or the theorems.
-- Buckets of two series added: the definitions of functions between our own crates. Assumes nothing.
use Rattle.std.specs.Prelude.{ℕ, ◌+◌, ◌^◌, ◌≤◌, ◌<◌, List, length, take}
use Rattle.laws.specs.Counting.{total}

-- the first k counts of two rows can be added
pub record Addable (k : ℕ) (xs zs : List ℕ) : Type 0 where
  pub first : k ≤ length xs
  pub second : k ≤ length zs
  pub sums : total (take k xs) + total (take k zs) < 2 ^ 64
