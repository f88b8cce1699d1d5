-- The two histogram kinds over i64 (document 02, L6) as one kind of series. Assumes nothing.
use Rattle.std.specs.Prelude.{ℕ, Bool, List, ℤ}
use Rattle.points.specs.Counts.{Settings}
use Rattle.points.specs.Any
use Rattle.points.specs.Whole.{whole}
use Rattle.tally.specs.Kind as Tally
use Rattle.kinds.specs.Any.{histograms_of}

-- a point of i64 values
abbrev pub Handed : Type 0
Handed = Any.Handed whole

-- the point of a list of values
unfoldable pub handed : Settings → List ℤ → Handed
handed s vs = Any.handed whole s vs

unfoldable pub merge_handed : ℕ → Handed → Handed → Handed
merge_handed size p q = Any.merge_handed whole size p q

-- "Merging: 1, 8, 11, 9, 16, 10", the number but for 10
unfoldable pub unmergeable : ℕ → Bool → Handed → Handed → ℕ
unmergeable size there p q = Any.unmergeable whole size there p q

-- a value is an i64. 16 after 9
abbrev pub wholes : Tally.Kind
wholes = histograms_of whole handed
