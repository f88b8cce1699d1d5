-- A fraction rounded to the nearest whole number, and the mean of values in hundredths, over whole numbers. Assumes nothing.
use Rattle.std.specs.Prelude.{ℕ, suc, ◌+◌, ◌*◌, ◌/◌, ◌%◌, ltb, ℤ, pos, negsuc, neg_ℤ}
use Rattle.laws.specs.Pick.{pick}
use Rattle.mean.specs.Rule.{half}

-- q + r / d, r below d: the nearer of q and q + 1, by which side of a half r / d lies; a half goes by the rule
unfoldable pub rounded : ℕ → ℕ → ℕ → ℕ
rounded q r d = pick (ltb (2 * r) d) q (pick (ltb d (2 * r)) (q + 1) (half q))

-- the whole number nearest to a / d
unfoldable pub nearest : ℕ → ℕ → ℕ
nearest a d = rounded (a / d) (a % d) d

-- the mean of `count` values whose sum is z / 1024, in hundredths: "The sum and count of a point are taken as an exact fraction, times 100,
-- and rounded to the nearest whole number"; the magnitude is rounded, then given the sign
abbrev pub hundredths : ℤ → ℕ → ℤ
hundredths (pos n) count = pos (nearest (n * 100) (count * 1024))
hundredths (negsuc n) count = neg_ℤ (pos (nearest (suc n * 100) (count * 1024)))
