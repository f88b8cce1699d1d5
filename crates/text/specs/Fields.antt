-- The fields of a line. Document 01: 'One space parts fields.' A space is the byte 32. Assumes nothing.
use Rattle.std.specs.Prelude.{ℕ, zero, suc, ◌+◌, ◌-◌, List, [], ◌∷◌, drop, ◌==◌}
use Rattle.laws.specs.Pick.{pick}
use Rattle.laws.specs.Counting.{bit}

-- 1 for a space
unfoldable pub space : ℕ → ℕ
space b = bit (b == 32)

-- how many spaces a line has: it has one field more
unfoldable pub spaces_of : List ℕ → ℕ
spaces_of [] = 0
spaces_of (b ∷ bs) = space b + spaces_of bs

-- the bytes before the first byte s, all where there is none
unfoldable pub until : ℕ → List ℕ → List ℕ
until s [] = []
until s (b ∷ bs) = pick (b == s) [] (b ∷ until s bs)

-- where the field behind k spaces starts; the line's end where there are fewer
unfoldable pub start_of : List ℕ → ℕ → ℕ
start_of [] k = 0
start_of (b ∷ bs) zero = 0
start_of (b ∷ bs) (suc k) = suc (start_of bs (suc k - space b))

-- the field that stands behind k spaces; an empty one where there are fewer
unfoldable pub field_of : List ℕ → ℕ → List ℕ
field_of bs k = until 32 (drop (start_of bs k) bs)
