-- BETWEEN OUR OWN CRATES: serves inner contracts and proofs; nobody needs it to believe the public calls or the theorems.
-- Hexadecimal digits taken two at a time. Assumes nothing.
use Rattle.std.specs.Prelude.{◌≡◌, ℕ, zero, suc, ◌+◌, ◌*◌, ◌<◌, Bool, true, false, ◌&&◌, List, [], ◌∷◌, nat_le, slice_index}
use Rattle.laws.specs.Pick.{pick}
use Rattle.text.specs.Numbers.{digit_of}

unfoldable pub is_decimal : ℕ → Bool
is_decimal b = nat_le 48 b && nat_le b 57

unfoldable pub is_letter : ℕ → Bool
is_letter b = nat_le 65 b && nat_le b 70

unfoldable pub are_hex : List ℕ → Bool
are_hex [] = true
are_hex (b ∷ bs) = pick (is_decimal b) (are_hex bs) (pick (is_letter b) (are_hex bs) false)

unfoldable pub pair_of : ℕ → ℕ → ℕ
pair_of a b = digit_of a * 16 + digit_of b

-- each of the first k bytes of `out` is the number that two digits of `bs` spell: byte 0 the first two, byte 1 the next two, and so on
unfoldable pub Paired : List ℕ → ℕ → List ℕ → Type 0
Paired bs k out = (j : ℕ) → j < k → slice_index out j ≡ pair_of (slice_index bs (2 * j)) (slice_index bs (2 * j + 1))

-- the number of the first k bytes, the most significant first
unfoldable pub joined_to : ℕ → List ℕ → ℕ
joined_to zero bs = 0
joined_to (suc k) bs = joined_to k bs * 256 + slice_index bs k
