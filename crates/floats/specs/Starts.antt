-- Finite f64s, and those that a series starts from. Assumes nothing.
use Rattle.std.specs.Prelude.{T, Float}
use Rattle.std.specs.Float.{binary64}
use Rattle.std.specs.Float.Ieee.{of_bits, fits}
use Rattle.std.specs.Float.Ieee.Scale.{finite}

-- x is a finite number that f64 has: the floats of the logic also have numbers that f64 lacks
pub record FiniteF64 (x : Float) : Type 0 where
  pub known : T (finite x)
  pub fits : T (fits binary64 x)

-- "Min starts at the greatest finite f64 and max at the least"
abbrev pub greatest_finite : Float
greatest_finite = of_bits binary64 0x7fef_ffff_ffff_ffff

abbrev pub least_finite : Float
least_finite = of_bits binary64 0xffef_ffff_ffff_ffff

-- 0.0
abbrev pub zero_float : Float
zero_float = of_bits binary64 0
