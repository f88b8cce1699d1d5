-- Document 02's examples of request L2, and the edges: a count, the bits of a sum, and the answer; one table, one proof. Assumes nothing.
use Prim.Native.Nat.{ℕ}
use mathlib.Core.Path.{◌≡◌, refl}
use mathlib.Core.Bool.{true}
use mathlib.Core.List.{List, [], ◌∷◌, map}
use lib.IntN.{ℤ, pos, negsuc}
use lib.Ieee.{binary64, of_bits}
use Rattle.laws.specs.Pick.{pick}
use Rattle.laws.specs.Said.{Said, refusal, success}
use Rattle.floats.specs.Grid.{is_whole}
use Rattle.std.specs.Prelude.{Option, Some, None, Float}
use Rattle.points.specs.Explicit.{buckets_agree, bounds_pass, no_nan, rising}
use Rattle.points.specs.Handed.{handed_agrees}
use Rattle.point.specs.declared.Figures.TheVariants.{Explicit}
use Rattle.point.specs.Handing.{Stored, stored_in, agrees_alone}
use Rattle.mean.specs.Rounding.{rounded, nearest}
use Rattle.mean.specs.Rule.{half}
use Rattle.mean.specs.Mean.{on_grid, mean_of, mean_in}

pub record Example : Type 0 where
  pub count : ℕ
  pub sum : ℕ
  pub answer : Said ℤ

abbrev of : ℕ → ℕ → Said ℤ → Example
of n b a = record { count = n; sum = b; answer = a }

abbrev pub examples : List Example
examples =
    -- "One board with sum -0.125 prints -13"
    of 1 0xbfc0_0000_0000_0000 (success (negsuc 12))
    -- 0.375
    ∷ of 1 0x3fd8_0000_0000_0000 (success (pos 38))
    -- "one with sum -0.005 is off the grid", and 0.005
    ∷ of 1 0xbf74_7ae1_47ae_147b (refusal 14)
    ∷ of 1 0x3f74_7ae1_47ae_147b (refusal 14)
    -- no values: 13, even with a NaN for a sum
    ∷ of 0 0x7ff8_0000_0000_0000 (refusal 13)
    ∷ of 1 0x7ff8_0000_0000_0000 (refusal 14)
    ∷ of 1 0x7ff0_0000_0000_0000 (refusal 14)
    ∷ of 1 0xfff0_0000_0000_0000 (refusal 14)
    -- 0.0 and -0.0
    ∷ of 3 0 (success (pos 0))
    ∷ of 3 0x8000_0000_0000_0000 (success (pos 0))
    -- 1/1024, and -1/1024: 0, without a sign
    ∷ of 1 0x3f50_0000_0000_0000 (success (pos 0))
    ∷ of 1 0xbf50_0000_0000_0000 (success (pos 0))
    -- 0.25 over 2 and 0.375 over 3: a half
    ∷ of 2 0x3fd0_0000_0000_0000 (success (pos 13))
    ∷ of 3 0x3fd8_0000_0000_0000 (success (pos 13))
    -- 1/2048, and the least f64
    ∷ of 1 0x3f40_0000_0000_0000 (refusal 14)
    ∷ of 1 1 (refusal 14)
    -- 2 ^ 43 and -2 ^ 43, the next f64s beyond, and 2 ^ 43 - 1/1024
    ∷ of 1 0x42a0_0000_0000_0000 (success (pos 879609302220800))
    ∷ of 1 0xc2a0_0000_0000_0000 (success (negsuc 879609302220799))
    ∷ of 1 0x42a0_0000_0000_0001 (refusal 14)
    ∷ of 1 0xc2a0_0000_0000_0001 (refusal 14)
    ∷ of 1 0x429f_ffff_ffff_ffff (success (pos 879609302220800))
    -- 2 ^ 43 over 2, 3, 2 ^ 53 and 2 ^ 64 - 1
    ∷ of 2 0x42a0_0000_0000_0000 (success (pos 439804651110400))
    ∷ of 3 0x42a0_0000_0000_0000 (success (pos 293203100740267))
    ∷ of 9007199254740992 0x42a0_0000_0000_0000 (success (pos 0))
    ∷ of 18446744073709551615 0x42a0_0000_0000_0000 (success (pos 0))
    -- -2 ^ 43 over the counts about 200 * 2 ^ 43: more than a half, a half, less
    ∷ of 1759218604441599 0xc2a0_0000_0000_0000 (success (negsuc 0))
    ∷ of 1759218604441600 0xc2a0_0000_0000_0000 (success (negsuc 0))
    ∷ of 1759218604441601 0xc2a0_0000_0000_0000 (success (pos 0))
    ∷ []

abbrev answered : Example → Example
answered e = of e.count e.sum (mean_of e.count (of_bits binary64 e.sum))

pub computed : map answered examples ≡ examples
unfolding mean_of pick on_grid is_whole of_bits nearest rounded half
computed = refl

-- ---- "after 8 .. 13 .., then 14": an explicit point without bounds whose sum is a NaN, by its extremes and its count
abbrev stored : Option Float → ℕ → Stored
stored e n =
    stored_in (record { figures = Explicit n; extremes = true; min = e; max = e; sum = of_bits binary64 0x7ff8_0000_0000_0000 }) [] [] []

abbrev naught : Option Float
naught = Some (of_bits binary64 0)

-- request L4: extremes shown of no values are 8, and so is their lack where there is one
order :
    (mean_in (stored naught 0) ≡ refusal 8)
    × (mean_in (stored None 0) ≡ refusal 13)
    × (mean_in (stored None 1) ≡ refusal 8)
    × (mean_in (stored naught 1) ≡ refusal 14)
unfolding mean_in agrees_alone handed_agrees buckets_agree bounds_pass no_nan rising mean_of on_grid is_whole of_bits pick
order = (refl, refl, refl, refl)
