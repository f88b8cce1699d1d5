-- POINTS OF A NUMBER AS CODE STORES AND MERGES THEM: of f64 (crate `point`), of i64 (crate `whole_point`). What is said of merging by code
-- is said once, over such a record. Assumes nothing.
use Rattle.std.specs.Prelude.{ℕ, ◌≡◌, Bool, true, List}
use Rattle.laws.specs.Lists.{All}
use Rattle.laws.specs.Said.{Said}
use Rattle.points.specs.Counts.{Settings}
use Rattle.points.specs.Number.{Number}
use Rattle.points.specs.Any.{Handed, handed}

pub record Coded (N : Number) : Type 1 where
  -- a point with its bounds and the lent rows that hold its counts
  pub Stored : Type 0
  -- the point of document 01 that it reads as
  pub handed_in : Stored → Handed N
  -- its level is one and its counts are there: what it reads as can't say
  pub in_shape : Stored → Bool
  -- two points merged under a max_size into two lent rows: the number, or the point that is left
  pub merging : ℕ → Stored → Stored → List ℕ → List ℕ → Said Stored

module _ {N : Number} (C : Coded N) where
  -- x is document 01's point of the values under the settings, and in shape
  pub record PointOf (s : Settings) (vs : List N.Value) (x : C.Stored) : Type 0 where
    pub is : C.handed_in x ≡ handed N s vs
    pub shape : C.in_shape x ≡ true
    pub values : All N.Known vs
