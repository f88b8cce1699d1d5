-- The magnitude of an f64 as a whole number. Assumes nothing.
use Rattle.std.specs.Prelude.{Bool, false, ℕ, ◌*◌, ◌/◌, ◌^◌, Float}
use Rattle.std.specs.Float.{nan, inf, fin}
use Rattle.std.specs.Float.Ieee.{up, down}

-- |x| in units of 2 ^ -2048: each finite f64 is a whole number of them (the law `exact`); 0 where x is not finite
unfoldable pub magnitude : Float → ℕ
magnitude nan = 0
magnitude (inf s) = 0
magnitude (fin s m e) = m * up e * 2 ^ 2048 / down e

-- the sign bit
abbrev pub is_negative : Float → Bool
is_negative nan = false
is_negative (inf s) = s
is_negative (fin s m e) = s
