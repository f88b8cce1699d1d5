-- Points of one number as they are stored, merged by code, by any grouping: f64 or i64. Assumes nothing.
use Rattle.std.specs.Prelude.{ℕ, ◌≡◌, true, List}
use Rattle.laws.specs.Said.{success}
use Rattle.laws.specs.Trees.{Tree, leaf, node}
use Rattle.index.specs.Bins.{finest, lowest_bin}
use Rattle.points.specs.Counts.{Kind, exponential, explicit, Settings}
use Rattle.points.specs.Number.{Number}
use Rattle.points.specs.Any.{handed_agrees, Of}
use Rattle.points.specs.Coded.{Coded}

-- "at the greatest allowed scale" (request L14)
abbrev pub AtTop : Kind → Type 0
AtTop (exponential size top) = top ≡ finest
AtTop (explicit bounds) = Unit {0}

module _ {N : Number} (C : Coded N) where
  -- a point of the settings that agrees under the max_size
  pub record Good (size : ℕ) (s : Settings) (x : C.Stored) : Type 0 where
    pub shape : C.in_shape x ≡ true
    pub agree : handed_agrees N size finest (lowest_bin finest) (C.handed_in x) ≡ true
    pub of : Of N s (C.handed_in x)

  -- by any grouping: z is what merging the leaves two by two by code has left, whatever rows were lent to each merge
  abbrev pub Groups : ℕ → Tree C.Stored → C.Stored → Type 0
  Groups size (leaf a) z = a ≡ z
  Groups size (node s t) z =
      (x : C.Stored) × (y : C.Stored) × (us : List ℕ) × (vs : List ℕ) × Groups size s x × Groups size t y × (C.merging size x y us vs ≡ success z)
