-- BETWEEN OUR OWN CRATES: serves inner contracts and proofs; nobody needs it to believe the public calls or the theorems, but for `onto` and
-- `downscaled`, which the theorem `PlainForm` is about.
-- A row of bucket counts: a start index, and the counts of the indices from it on. Assumes nothing.
use Rattle.std.specs.Prelude.{ℕ, zero, suc, ◌+◌, ◌-◌, ◌/◌, ◌^◌, min, List, [], ◌∷◌, ◌++◌, Bool, true, false, ◌&&◌, leb, eqb, take, drop, replicate}
use Rattle.laws.specs.Search.{least}
unfoldable pub use Rattle.laws.specs.Over.{over}

-- v more at place k, with zeros before it where the list is shorter
unfoldable pub add_at : ℕ → ℕ → List ℕ → List ℕ
add_at zero v [] = v ∷ []
add_at zero v (x ∷ xs) = (x + v) ∷ xs
add_at (suc k) v [] = 0 ∷ add_at k v []
add_at (suc k) v (x ∷ xs) = x ∷ add_at k v xs

-- the counts ys added to xs from place k on
unfoldable pub add_all : ℕ → List ℕ → List ℕ → List ℕ
add_all k [] xs = xs
add_all k (y ∷ ys) xs = add_all (suc k) ys (add_at k y xs)

-- x counted with the first of the list, or in front of it
unfoldable pub onto : Bool → ℕ → List ℕ → List ℕ
onto true x [] = x ∷ []
onto true x (y ∷ ys) = (x + y) ∷ ys
onto false x ys = x ∷ ys

-- the counts of the row that starts at s, at a scale that is d lower: the indices i with the same i / 2 ^ d are counted as one
unfoldable pub downscaled : ℕ → ℕ → List ℕ → List ℕ
downscaled d s [] = []
downscaled d s (x ∷ xs) = onto (eqb (s / 2 ^ d) (suc s / 2 ^ d)) x (downscaled d (suc s) xs)

-- one more at index i: where the row starts then, and its counts
unfoldable pub recorded_from : ℕ → List ℕ → ℕ → ℕ
recorded_from s [] i = i
recorded_from s (x ∷ xs) i = min s i

unfoldable pub recorded : ℕ → List ℕ → ℕ → List ℕ
recorded s [] i = 1 ∷ []
recorded s (x ∷ xs) i = add_at (i - s) 1 (replicate (s - i) 0 ++ x ∷ xs)

-- whether the row of n counts from s on has the index i
unfoldable pub holds : ℕ → ℕ → ℕ → Bool
holds s n i = leb s i && leb (suc i) (s + n)

-- whether the indices from lo to hi are at most size, d levels lower
unfoldable pub narrow : ℕ → ℕ → ℕ → ℕ → Bool
narrow size lo hi d = leb (suc (hi / 2 ^ d - lo / 2 ^ d)) size

-- the fewest levels lower at which they are: "the largest scale .. at which all fits"
unfoldable pub lowering : ℕ → ℕ → ℕ → ℕ
lowering size lo hi = least (narrow size lo hi) 0 32

-- zeros from a up to e
unfoldable pub zeroed : ℕ → ℕ → List ℕ → List ℕ
zeroed a e xs = take a xs ++ (replicate (e - a) 0 ++ drop e xs)

-- the first n k places further on, and the first k as they were
unfoldable pub shifted : ℕ → ℕ → List ℕ → List ℕ
shifted n k xs = take k xs ++ (take n xs ++ drop (k + n) xs)
