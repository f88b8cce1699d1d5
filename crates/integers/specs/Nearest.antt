-- The f64 nearest to a whole number, ties to the even mantissa, as IEEE 754 defines it and over whole numbers only. Assumes nothing.
use Rattle.std.specs.Prelude.{◌≡◌, ℕ, ◌*◌, ◌%◌, ◌^◌, ◌<◌, ◌≤◌, Bool, true, false, ℤ, pos, negsuc, ◌-ℤ◌, ◌*ℤ◌, ◌≢◌, unsigned_abs, Float}
use Rattle.index.specs.Magnitude.{magnitude, is_negative}
use Rattle.floats.specs.Starts.{FiniteF64}
use Rattle.floats.specs.Grid.{signed}

-- a finite f64 in units of 2 ^ -2048, of which it is a whole number, with its sign; both zeros are 0
abbrev pub in_units : Float → ℤ
in_units x = signed (is_negative x) (magnitude x)

-- how far x lies from the whole number z, in those units
abbrev pub distance : ℤ → Float → ℕ
distance z x = unsigned_abs (in_units x -ℤ z *ℤ pos (2 ^ 2048))

-- the mantissa of 53 binary digits is even: x is m * 2 ^ e of these units, which leaves no choice of m and e
pub record EvenMantissa (x : Float) : Type 0 where
  pub m : ℕ
  pub e : ℕ
  pub value : magnitude x ≡ m * 2 ^ e
  pub least : 2 ^ 52 ≤ m
  pub most : m < 2 ^ 53
  pub even : m % 2 ≡ 0

-- z is below 0
abbrev pub negative : ℤ → Bool
negative (pos n) = false
negative (negsuc n) = true

-- x is a finite f64 with z's sign (+0.0 for 0), no finite f64 lies nearer to z, and if another number lies as near then x's mantissa is even.
-- Of every i64 that is one f64: `nearest_of` (the law `nearest-is`) and no other (the law `one-nearest`)
pub record Nearest (z : ℤ) (x : Float) : Type 0 where
  pub finite : FiniteF64 x
  pub sign : is_negative x ≡ negative z
  pub least : (y : Float) → FiniteF64 y → distance z x ≤ distance z y
  pub tie : (y : Float) → FiniteF64 y → distance z y ≡ distance z x → (in_units y ≢ in_units x) → EvenMantissa x
