-- BETWEEN OUR OWN CRATES: serves a trait's law; nobody needs it to believe the public calls or the theorems.
-- A NonZeroU8's number is not 0. Assumes nothing.
use Rattle.std.specs.Prelude.{◌≢◌}
use native.Mathlib.Omega.{arith}
use Rattle.std.specs.NonZero.{non_zero_u8_get}
use Rattle.std.specs.declared.num.NonZeroU8.{NonZeroU8}

pub held : (e : NonZeroU8) → non_zero_u8_get e ≢ 0
held e z = let k = e.ok in omega (arith, k, z)
