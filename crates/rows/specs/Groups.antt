-- BETWEEN OUR OWN CRATES: serves inner contracts and proofs; nobody needs it to believe the public calls or the theorems.
-- Groups of neighbours, each of which becomes one count where a row is lowered. Assumes nothing.
use Rattle.std.specs.Prelude.{ℕ, zero, suc, ◌+◌, ◌*◌, ◌^◌, ◌≤◌, ◌<◌, List, [], ◌∷◌, ◌++◌, length, take, drop}
use Rattle.laws.specs.Counting.{total}
use Rattle.laws.specs.Over.{over}
use Rattle.rows.specs.Parts.{part}

-- the totals of the first m groups of w counts
unfoldable pub groups : ℕ → ℕ → List ℕ → List ℕ
groups w zero xs = []
groups w (suc m) xs = total (take w xs) ∷ groups w m (drop w xs)

-- the totals of m groups of w counts, which lie from i on, laid from place a on in the same store
abbrev pub gathered : ℕ → ℕ → ℕ → ℕ → List ℕ → List ℕ
gathered w a i m xs = over (take a xs ++ groups w m (drop i xs)) xs

-- they lie in the store, at that place or behind it, and together they are a u64
abbrev pub Gatherable : ℕ → ℕ → ℕ → ℕ → List ℕ → Type 0
Gatherable w a i m xs = (a ≤ i) × (i + m * w ≤ length xs) × (total (part xs i (i + m * w)) < 2 ^ 64)
