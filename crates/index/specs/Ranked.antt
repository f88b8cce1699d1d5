-- BETWEEN OUR OWN CRATES: serves inner contracts and proofs; nobody needs it to believe the public calls or the theorems.
-- The rank of a mantissa among the bounds. Assumes nothing.
use Rattle.std.specs.Prelude.{ℕ, ◌+◌, ◌^◌, ◌≤◌, ◌<◌}

-- r is how many of the 1024 bounds lie below m, for an m from 2 ^ 52 up to 2 ^ 53
pub record Ranked (m r : ℕ) : Type 0 where
  pub small : r ≤ 1024
  pub above : 2 ^ (r + 53247) < m ^ 1024
  pub within : m ^ 1024 ≤ 2 ^ (r + 53248)

-- the rank of m is g or g + 1
pub record Near (m g : ℕ) : Type 0 where
  pub small : g < 1024
  pub above : 2 ^ (g + 53247) < m ^ 1024
  pub within : m ^ 1024 ≤ 2 ^ (g + 1 + 53248)
