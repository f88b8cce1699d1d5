-- A merged point is one that code holds: its words are read back as it is. Assumes nothing.
use Prim.Native.Nat.{ℕ, ◌+◌, ◌-◌, ◌*◌, ◌^◌, ◌≤◌, ◌<◌}
use mathlib.Core.Path.{◌≡◌, refl, sym, ap, ◌∙◌}
use mathlib.Core.Bool.{Bool, true, false, ◌||◌}
use mathlib.Core.List.{List}
use native.Mathlib.Nat.{lt_of_le_of_lt, mul-le-mul}
use native.Mathlib.Omega.{arith}
use lib.Dec.{leb, eqb, lit<, lit≤}
use lib.ListN.{get_or}
use lib.Pow.{pow_mono}
use lib.Ieee.{Float, binary64, of_bits, fits, lt, add}
use lib.Ieee.Bits.{is_true, of_bits-fits}
use lib.Ieee.Fits.{add-fits}
use Rattle.laws.specs.Pick.{pick}
use Rattle.laws.proofs.Cases.{true-not-false}
use Rattle.index.specs.Bins.{finest, end_bin}
use Rattle.floats.specs.Answers.{is_shown, smaller_of, larger_of}
use Rattle.std.specs.Prelude.{Option, Some, None}
use Rattle.points.specs.Handed.{merge_counts}
use Rattle.points.proofs.Kept.{merge-agrees}
use Rattle.points.proofs.Numbers.{either-shown}
use Rattle.exponential.specs.declared.Counts.{Counts}
use Rattle.exponential.specs.Series.{lowest_of_all, read}
use Rattle.exponential.proofs.Facts as Facts
use Rattle.point.specs.declared.Point.{Point}
use Rattle.point.specs.declared.Figures.{Figures}
use Rattle.point.specs.declared.Figures.TheVariants.{Exponential, Explicit}
use Rattle.point.specs.Handing.{Stored, counts_as, figures_for, refusal_before}
use Rattle.point.specs.Inner.{is_explicit}
use Rattle.point.proofs.Calls as calls
use Rattle.listing.specs.Words.{figures_in, bounds_in, extreme_in, point_in}
use Rattle.listing.specs.declared.Span.{Span}
use Rattle.listing.proofs.Back.{Narrow, Fitting, Held}
use Rattle.pooling.proofs.Verdicts.{point}

-- ---- a point that was read from words

pub record Read (p : Point) (b : Span) : Type 0 where
  pub shown : is_shown p.max ≡ is_shown p.min
  pub min : Fitting p.min
  pub max : Fitting p.max
  pub none : (c : Counts) → p.figures ≡ Exponential c → b ≡ record { start = 0; len = 0 }

shown_in_lem : (s : Bool) (n : ℕ) → is_shown (extreme_in s n) ≡ s
unfolding extreme_in pick
shown_in_lem true n = refl
shown_in_lem false n = refl

fits_in : (s : Bool) (n : ℕ) → Fitting (extreme_in s n)
unfolding extreme_in pick
fits_in true n = is_true (fits binary64 (of_bits binary64 n)) (of_bits-fits binary64 n)
fits_in false n = tt

no-bounds : (t : Bool) (c d : Counts) (n : ℕ) (s : Span) → pick t (Exponential c) (Explicit n) ≡ Exponential d → pick t (record { start = 0; len = 0 }) s ≡ record { start = 0; len = 0 }
unfolding pick
no-bounds true c d n s e = refl
no-bounds false c d n s e = true-not-false (ap is_explicit e)

pub words-read : (w : List ℕ) → Read (point_in w) (bounds_in w)
unfolding point_in figures_in bounds_in
words-read w =
    let s = leb 2 (get_or w 8 0) in
    record {
      shown = shown_in_lem s (get_or w 10 0) ∙ sym (shown_in_lem s (get_or w 9 0));
      min = fits_in s (get_or w 9 0);
      max = fits_in s (get_or w 10 0);
      none = λ d e. no-bounds (eqb (get_or w 0 0) 0) _ d (get_or w 1 0) (record { start = get_or w 4 0; len = get_or w 5 0 }) e;
    }

-- ---- extremes of two

fits-either : (t : Bool) (x y : Float) → fits binary64 x ≡ true → fits binary64 y ≡ true → fits binary64 (pick t x y) ≡ true
unfolding pick
fits-either true x y p q = p
fits-either false x y p q = q

fits-smaller : (u v : Option Float) → Fitting u → Fitting v → Fitting (smaller_of u v)
fits-smaller None v p q = q
fits-smaller (Some x) None p q = p
fits-smaller (Some x) (Some y) p q = fits-either (lt y x) y x q p

fits-larger : (u v : Option Float) → Fitting u → Fitting v → Fitting (larger_of u v)
fits-larger None v p q = q
fits-larger (Some x) None p q = p
fits-larger (Some x) (Some y) p q = fits-either (lt x y) y x q p

-- ---- levels and starts are numbers of 32 bits

thrice-small : (k level : ℕ) → k ≤ 3 → level ≤ finest → k * 2 ^ level < 4294967296
thrice-small k level h g = lt_of_le_of_lt (mul-le-mul h (pow_mono g)) (lit< tt)

end-small : (level : ℕ) → level ≤ finest → end_bin level < 4294967296
end-small level h = thrice-small 3 level (lit≤ tt) h

level-small : (d : ℕ) → finest - d < 4294967296
level-small d = omega arith

level_in : (d : ℕ) → finest - d ≤ finest
level_in d = omega arith

start_small : (start n end : ℕ) → start + n ≤ end → end < 4294967296 → start < 4294967296
start_small start n end h k = omega arith

module _ (size : ℕ) (x y : Stored) (b : Span) (e : refusal_before size x y ≡ 0) (r : Read x.point b) where
  abbrev NarrowOf : Figures → Figures → Type 0
  NarrowOf f g = Narrow (figures_for (merge_counts size (counts_as f x.bounds x.pos x.neg) (counts_as g y.bounds y.pos y.neg))) b

  narrow-exponential : (c d : Counts) → x.point.figures ≡ Exponential c → y.point.figures ≡ Exponential d → NarrowOf (Exponential c) (Exponential d)
  narrow-exponential c d f g =
      let k = calls.agreeing size x y e c d f g in
      let p = Facts.agreed size finest c x.pos x.neg k.first in
      let q = Facts.agreed size finest d y.pos y.neg k.second in
      let m = merge-agrees size size size finest finest lowest_of_all (read c x.pos x.neg) (read d y.pos y.neg) p.least p.point q.point in (
        level-small _,
        start_small _ _ _ m.pos.below (end-small _ (level_in _)),
        start_small _ _ _ m.neg.below (end-small _ (level_in _)),
        r.none c f,
      )

  narrow : (f g : Figures) → x.point.figures ≡ f → y.point.figures ≡ g → NarrowOf f g
  narrow (Exponential c) (Exponential d) f g = narrow-exponential c d f g
  narrow (Exponential c) (Explicit m) f g = absurd (calls.not_mixed size x y e c m f g)
  narrow (Explicit n) (Exponential d) f g = absurd (calls.not_mixed_2 size x y e n d f g)
  narrow (Explicit n) (Explicit m) f g = tt

  pub merged-held : (s : Span) → Read y.point s → Held (point size x y) b
  merged-held s t =
      let p = x.point in
      let q = y.point in
      record {
        figures = narrow p.figures q.figures refl refl;
        both = either-shown false p.max q.max ∙ (λ i. r.shown i || t.shown i) ∙ sym (either-shown true p.min q.min);
        min = fits-smaller p.min q.min r.min t.min;
        max = fits-larger p.max q.max r.max t.max;
        sum = is_true (fits binary64 (add binary64 p.sum q.sum)) (add-fits binary64 p.sum q.sum);
      }
