-- The nearest f64 computed, around 2 ^ 53 and at i64's ends, with halves both ways. Assumes nothing.
use Rattle.std.proofs.Common.{◌≡◌, ◌^◌, List, [], ◌∷◌, map, ℤ, pos, negsuc, ◌*ℤ◌, refl}
use lib.Ieee.{of_int}
use Rattle.index.specs.Magnitude.{magnitude}
use Rattle.integers.specs.Answers.{nearest_of}
use Rattle.integers.specs.Nearest.{in_units}

-- an i64 and the nearest f64, which is a whole number here; `negsuc n` is -(n + 1)
abbrev table : List (ℤ × ℤ)
table =
    (pos 0, pos 0)
    -- 2 ^ 53 - 1 and 2 ^ 53 are f64s; above it every second whole number is one
    ∷ (pos 9007199254740991, pos 9007199254740991)
    ∷ (pos 9007199254740992, pos 9007199254740992)
    -- a half down, and one up: 2 ^ 53 + 2 has an odd mantissa
    ∷ (pos 9007199254740993, pos 9007199254740992)
    ∷ (pos 9007199254740995, pos 9007199254740996)
    ∷ (negsuc 9007199254740992, negsuc 9007199254740991)
    ∷ (negsuc 9007199254740994, negsuc 9007199254740995)
    -- below 2 ^ 63 every 1,024th is one: 2 ^ 63 - 1,536 is a half down, 2 ^ 63 - 513 less than a half, 2 ^ 63 - 512 a half up
    ∷ (pos 9223372036854774272, pos 9223372036854773760)
    ∷ (pos 9223372036854775295, pos 9223372036854774784)
    ∷ (pos 9223372036854775296, pos 9223372036854775808)
    -- the greatest i64 and the least
    ∷ (pos 9223372036854775807, pos 9223372036854775808)
    ∷ (negsuc 9223372036854775807, negsuc 9223372036854775807)
    ∷ []

examples : map (λ r. in_units (nearest_of r.0)) table ≡ map (λ r. r.1 *ℤ pos (2 ^ 2048)) table
unfolding of_int magnitude
examples = refl
