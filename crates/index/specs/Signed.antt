-- What the calls between scales and levels, indices and bins answer. Assumes nothing.
use Rattle.std.specs.Prelude.{ℕ, leb, ltb, eqb, ℤ, pos, negsuc, nat_abs, ◌+ℤ◌, Float, Option, Some, None}
use Rattle.std.specs.Int.Signed.{lt_z}
use Rattle.std.specs.Float.Ieee.Scale.{finite}
use Rattle.laws.specs.Pick.{pick}
use Rattle.index.specs.Magnitude.{magnitude, is_negative}
use Rattle.index.specs.Bins.{finest, bin_at, end_bin, scale_of, index_of}
use Rattle.index.specs.declared.signed.Index.{Index}
use Rattle.index.specs.declared.signed.Index.TheVariants as X

-- the level of a scale from -10 to 10 is the scale + 10
unfoldable pub level_answer : ℤ → Option ℕ
level_answer scale = pick (lt_z scale (negsuc 9)) None (pick (lt_z (pos 10) scale) None (Some (nat_abs (scale +ℤ pos 10))))

unfoldable pub scale_answer : ℕ → Option ℤ
scale_answer level = pick (leb level finest) (Some (scale_of level)) None

-- the index of a bin that is one of the level's
unfoldable pub index_answer : ℕ → ℕ → Option ℤ
index_answer level bin = pick (leb level finest) (pick (ltb bin (end_bin level)) (Some (index_of level bin)) None) None

-- the index of x at a scale: that of its bin at the scale's level
abbrev pub at_level : Float → Option ℕ → Index
at_level x None = X.NoScale
at_level x (Some level) =
    pick (finite x) (pick (eqb (magnitude x) 0) X.Zero (X.At (is_negative x) (index_of level (bin_at level (magnitude x))))) X.NotFinite

unfoldable pub value_index : Float → ℤ → Index
value_index x scale = at_level x (level_answer scale)
