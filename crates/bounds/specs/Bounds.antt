-- BETWEEN OUR OWN CRATES: serves inner contracts and proofs; nobody needs it to believe the public calls or the theorems.
-- The bounds of scale 10's buckets within a power of two, in units of 2 ^ -52. Assumes nothing.
use Rattle.std.specs.Prelude.{ℕ, suc, ◌+◌, ◌^◌, ◌≤◌, ◌<◌}

-- m is the largest whole number with m ^ 1024 <= 2 ^ (k + 53248): the bound 2 ^ (k / 1024), rounded down
pub record BoundAt (k m : ℕ) : Type 0 where
  pub reaches : m ^ 1024 ≤ 2 ^ (k + 53248)
  pub next : 2 ^ (k + 53248) < suc m ^ 1024
