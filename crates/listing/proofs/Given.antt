-- What a series hands out is a point that code holds, which a list takes. Assumes nothing.
use Prim.Native.Nat.{◌<◌}
use mathlib.Core.Path.{◌≡◌, refl}
use mathlib.Core.Bool.{Bool, true, false}
use lib.Ieee.{Float, binary64, fits}
use lib.Ieee.Bits.{is_true, of_bits-fits}
use Rattle.laws.specs.Pick.{pick}
use Rattle.floats.specs.Answers.{shows, is_shown}
use Rattle.floats.specs.Starts.{zero_float}
use Rattle.points.proofs.Numbers.{shown_if}
use Rattle.exponential.specs.declared.Head as SH
use Rattle.explicit.specs.declared.Head as BH
use Rattle.point.specs.Handing.{exponential_point, explicit_point}
use Rattle.listing.specs.declared.Span.{Span}
use Rattle.listing.proofs.Back.{Fitting, Held}

shown-fits : (due : Bool) (x : Float) → fits binary64 x ≡ true → Fitting (shown_if due x)
unfolding pick
shown-fits true x h = h
shown-fits false x h = tt

shown-alike : (due : Bool) (x y : Float) → is_shown (shown_if due x) ≡ is_shown (shown_if due y)
unfolding pick
shown-alike true x y = refl
shown-alike false x y = refl

sum_fits : (s : Bool) (x : Float) → fits binary64 x ≡ true → fits binary64 (pick s x zero_float) ≡ true
unfolding pick
sum_fits true x h = h
sum_fits false x h = is_true (fits binary64 zero_float) (of_bits-fits binary64 0)

-- the point that a series hands out is held, of either kind
module _ (extremes sums : Bool) where
  pub exponential-held : (h : SH.Head) → fits binary64 h.min ≡ true → fits binary64 h.max ≡ true → fits binary64 h.sum ≡ true
      → h.counts.level < 4294967296 → h.counts.pos.start < 4294967296 → h.counts.neg.start < 4294967296
      → Held (exponential_point h extremes sums) (record { start = 0; len = 0 })
  exponential-held h a b c l p n =
      record {
        figures = (l, p, n, refl);
        both = shown-alike (shows extremes h.counts.count) h.max h.min;
        min = shown-fits (shows extremes h.counts.count) h.min a;
        max = shown-fits (shows extremes h.counts.count) h.max b;
        sum = sum_fits sums h.sum c;
      }

  pub explicit-held : (h : BH.Head) (s : Span) → fits binary64 h.min ≡ true → fits binary64 h.max ≡ true → fits binary64 h.sum ≡ true
      → Held (explicit_point h extremes sums) s
  explicit-held h s a b c =
      record {
        figures = tt;
        both = shown-alike (shows extremes h.count) h.max h.min;
        min = shown-fits (shows extremes h.count) h.min a;
        max = shown-fits (shows extremes h.count) h.max b;
        sum = sum_fits sums h.sum c;
      }
