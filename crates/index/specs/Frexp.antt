-- BETWEEN OUR OWN CRATES: serves inner contracts and proofs; nobody needs it to believe the public calls or the theorems.
-- An f64 as a mantissa of 53 binary digits and an exponent: what `frexp` answers. Assumes nothing.
use Rattle.std.specs.Prelude.{◌≡◌, Bool, true, false, ℕ, ◌*◌, ◌^◌, ◌≤◌, ◌<◌, Float}
use Rattle.std.specs.Float.Ieee.Scale.{finite}
use Rattle.index.specs.Magnitude.{magnitude, is_negative}
use Rattle.index.specs.declared.Parts.{Parts}
use Rattle.index.specs.declared.Parts.TheVariants.{NotFinite, Zero, Number}

-- x is m * 2 ^ (e - 2048), with the sign; a mantissa of 53 digits leaves no choice of m and e
pub record Split (x : Float) (negative : Bool) (m e : ℕ) : Type 0 where
  pub finite : finite x ≡ true
  pub sign : is_negative x ≡ negative
  pub value : magnitude x ≡ m * 2 ^ e
  pub least : 2 ^ 52 ≤ m
  pub most : m < 2 ^ 53
  pub lowest : 922 ≤ e
  pub highest : e ≤ 3019

abbrev pub PartsOf : Float → Parts → Type 0
PartsOf x NotFinite = finite x ≡ false
PartsOf x Zero = (finite x ≡ true) × (magnitude x ≡ 0)
PartsOf x (Number s m e) = Split x s m e
