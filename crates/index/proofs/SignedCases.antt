-- What the signed answers are, by the tests of the code. Assumes nothing.
use mathlib.Core.Path.{◌≡◌, refl}
use mathlib.Core.Bool.{true, false}
use Prim.Native.Nat.{ℕ, ◌≤◌, ◌<◌}
use borrow.Author.Tests.{le-leb, lt-leb, lt-ltb, le-ltb}
use lib.IntN.{ℤ, pos, negsuc, nat_abs, ◌+ℤ◌}
use lib.Signed.{lt_z}
use Rattle.laws.specs.Pick.{pick}
use Rattle.index.specs.Bins.{finest, end_bin, scale_of, index_of}
use Rattle.index.specs.Signed.{level_answer, scale_answer, index_answer}
use Rattle.std.specs.Prelude.{Some, None}

module _ (scale : ℤ) where
  pub level-low : lt_z scale (negsuc 9) ≡ true → level_answer scale ≡ None
  unfolding level_answer pick
  level-low h = simp h refl

  pub level-high : lt_z scale (negsuc 9) ≡ false → lt_z (pos 10) scale ≡ true → level_answer scale ≡ None
  unfolding level_answer pick
  level-high h g = simp h (simp g refl)

  pub level-is : lt_z scale (negsuc 9) ≡ false → lt_z (pos 10) scale ≡ false → level_answer scale ≡ Some (nat_abs (scale +ℤ pos 10))
  unfolding level_answer pick
  level-is h g = simp h (simp g refl)

module _ (level : ℕ) where
  pub scale-none : finest < level → scale_answer level ≡ None
  unfolding scale_answer pick
  scale-none h = simp (lt-leb level finest h) refl

  pub scale-is : level ≤ finest → scale_answer level ≡ Some (scale_of level)
  unfolding scale_answer pick
  scale-is h = simp (le-leb level finest h) refl

  pub index-none : (bin : ℕ) → finest < level → index_answer level bin ≡ None
  unfolding index_answer pick
  index-none bin h = simp (lt-leb level finest h) refl

  pub index-high : (bin : ℕ) → level ≤ finest → end_bin level ≤ bin → index_answer level bin ≡ None
  unfolding index_answer pick
  index-high bin h g = simp (le-leb level finest h) (simp (le-ltb bin (end_bin level) g) refl)

  pub index_is : (bin : ℕ) → level ≤ finest → bin < end_bin level → index_answer level bin ≡ Some (index_of level bin)
  unfolding index_answer pick
  index_is bin h g = simp (le-leb level finest h) (simp (lt-ltb bin (end_bin level) g) refl)
