-- What a series over i64 hands out is a point that code holds, which a list takes. Assumes nothing.
use Prim.Native.Nat.{◌<◌}
use mathlib.Core.Path.{◌≡◌, refl}
use mathlib.Core.Bool.{Bool, true, false}
use lib.IntN.{ℤ}
use Rattle.laws.specs.Pick.{pick}
use Rattle.floats.specs.Answers.{shows}
use Rattle.integers.specs.Answers.{in_range, is_shown}
use Rattle.std.specs.Prelude.{Some, None}
use Rattle.points.specs.Whole.{whole}
use Rattle.exponential_wholes.specs.declared.Head as SH
use Rattle.explicit_wholes.specs.declared.Head as BH
use Rattle.whole_point.specs.Handing.{exponential_point, explicit_point}
use Rattle.listing.specs.declared.Span.{Span}
use Rattle.whole_listing.proofs.Back.{Ranged, Held}

shown_ranged : (due : Bool) (x : ℤ) → in_range x ≡ true → Ranged (pick due (Some x) None)
unfolding pick
shown_ranged true x h = h
shown_ranged false x h = tt

shown-both : (due : Bool) (x y : ℤ) → is_shown (pick due (Some x) None) ≡ is_shown (pick due (Some y) None)
unfolding pick
shown-both true x y = refl
shown-both false x y = refl

sum_ranged : (s : Bool) (x : ℤ) → in_range x ≡ true → in_range (pick s x whole.zero) ≡ true
unfolding pick
sum_ranged true x h = h
sum_ranged false x h = refl

-- the point that a series hands out is held, of either kind
module _ (extremes sums : Bool) where
  pub exponential-held : (h : SH.Head) → in_range h.min ≡ true → in_range h.max ≡ true → in_range h.sum ≡ true
      → h.counts.level < 4294967296 → h.counts.pos.start < 4294967296 → h.counts.neg.start < 4294967296
      → Held (exponential_point h extremes sums) (record { start = 0; len = 0 })
  exponential-held h a b c l p n =
      record {
        figures = (l, p, n, refl);
        both = shown-both (shows extremes h.counts.count) h.max h.min;
        min = shown_ranged (shows extremes h.counts.count) h.min a;
        max = shown_ranged (shows extremes h.counts.count) h.max b;
        sum = sum_ranged sums h.sum c;
      }

  pub explicit-held : (h : BH.Head) (s : Span) → in_range h.min ≡ true → in_range h.max ≡ true → in_range h.sum ≡ true
      → Held (explicit_point h extremes sums) s
  explicit-held h s a b c =
      record {
        figures = tt;
        both = shown-both (shows extremes h.count) h.max h.min;
        min = shown_ranged (shows extremes h.count) h.min a;
        max = shown_ranged (shows extremes h.count) h.max b;
        sum = sum_ranged sums h.sum c;
      }
