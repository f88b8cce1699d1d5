-- The bucket index of the OpenTelemetry Metrics Data Model, over whole numbers. Assumes nothing.
-- The Data Model: at scale s a magnitude v > 0 has the index i with 2 ^ (i / 2 ^ s) < v <= 2 ^ ((i + 1) / 2 ^ s).
-- Here v is w / 2 ^ 2048, and the scale is s = u - t, where u or t is 0. Raised to the power 2 ^ u the inequality reads
-- 2 ^ (i * 2 ^ t) < v ^ (2 ^ u) <= 2 ^ ((i + 1) * 2 ^ t).
use Rattle.std.specs.Prelude.{◌≡◌, ℕ, suc, ◌*◌, ◌^◌, ◌≤◌, ◌<◌, ℤ, pos, negsuc, ◌*ℤ◌}
use Rattle.std.proofs.Math.IntN.{suc_ℤ}
use Rattle.std.specs.Int.Signed as Z

-- 2 ^ z < a / b
abbrev pub Above : ℤ → ℕ → ℕ → Type 0
Above (pos n) a b = 2 ^ n * b < a
Above (negsuc n) a b = b < 2 ^ suc n * a

-- a / b <= 2 ^ z
abbrev pub Within : ℤ → ℕ → ℕ → Type 0
Within (pos n) a b = a ≤ 2 ^ n * b
Within (negsuc n) a b = 2 ^ suc n * a ≤ b

-- i is an index of the magnitude w at the scale u - t
pub record InBucket (u t w : ℕ) (i : ℤ) : Type 0 where
  pub above : Above (i *ℤ pos (2 ^ t)) (w ^ (2 ^ u)) ((2 ^ 2048) ^ (2 ^ u))
  pub within : Within (suc_ℤ i *ℤ pos (2 ^ t)) (w ^ (2 ^ u)) ((2 ^ 2048) ^ (2 ^ u))

-- i is the index of the magnitude w at a scale. Document 01: "For s >= 0 write it over whole numbers, v raised to 2^s; for s < 0
-- the index is that of scale 0 shifted right, rounding down" (`shr_z j (2 ^ n)` is j / 2 ^ n, rounded down)
abbrev pub IsIndex : ℤ → ℕ → ℤ → Type 0
IsIndex (pos s) w i = InBucket s 0 w i
IsIndex (negsuc n) w i = (j : ℤ) × InBucket 0 0 w j × (i ≡ Z.shr_z j (2 ^ suc n))
