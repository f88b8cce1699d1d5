-- THE PLAIN FORM of rescaling (request L3): a row halved once, and again, as often as it has scales to go. A row is the bin where it starts, which is
-- halved too, and its counts. Assumes nothing.
use Rattle.std.specs.Prelude.{ℕ, zero, suc, ◌+◌, ◌/◌, ◌%◌, List, [], ◌∷◌, eqb}
use Rattle.laws.specs.Pick.{pick}

-- neighbours two by two, and a last one that is left
unfoldable pub paired : List ℕ → List ℕ
paired [] = []
paired (x ∷ []) = x ∷ []
paired (x ∷ y ∷ r) = (x + y) ∷ paired r

-- the counts from bin s on, one scale lower: a first count of an odd bin has no neighbour below it
unfoldable pub halved_once : ℕ → List ℕ → List ℕ
halved_once s [] = []
halved_once s (x ∷ xs) = pick (eqb (s % 2) 0) (paired (x ∷ xs)) (x ∷ paired xs)

-- d scales lower: where the row starts then, and its counts
unfoldable pub plain_start : ℕ → ℕ → ℕ
plain_start zero s = s
plain_start (suc d) s = plain_start d (s / 2)

unfoldable pub plain_counts : ℕ → ℕ → List ℕ → List ℕ
plain_counts zero s xs = xs
plain_counts (suc d) s xs = plain_counts d (s / 2) (halved_once s xs)
