-- The words of a point of i64 values and those of its shadow. Assumes nothing.
use Prim.Native.Nat.{ℕ, zero, suc, ◌+◌, ◌*◌, ◌<◌}
use mathlib.Core.Path.{◌≡◌, refl, sym, ◌∙◌}
use mathlib.Core.List.{List, [], ◌∷◌, ◌++◌, map}
use native.Mathlib.Omega.{arith}
use lib.ListN.{length, get_or}
use lib.Ieee.{of_bits, of_fields, is_nan, to_bits}
use Rattle.laws.specs.Pick.{pick}
use Rattle.laws.specs.Counting.{bit}
use Rattle.floats.specs.Answers as Floats
use Rattle.floats.specs.Starts.{zero_float}
use Rattle.integers.specs.Answers.{is_shown}
use Rattle.std.specs.Prelude.{Option, Some, None, ℤ}
use Rattle.points.specs.Shadow.{shadow_of}
use Rattle.point.specs.declared.Figures.{Figures}
use Rattle.point.specs.declared.Figures.TheVariants.{Exponential, Explicit}
use Rattle.whole_point.specs.Handing.{shadow_point}
use Rattle.whole_point.specs.declared.Point.{Point}
use Rattle.listing.specs.Words as F
use Rattle.listing.specs.Words.{figures_words}
use Rattle.listing.specs.declared.Span.{Span}
use Rattle.whole_listing.specs.Words.{raised, words_of, shadow_words}

pub shown-alike : (x : Option ℤ) → Floats.is_shown (shadow_of x) ≡ is_shown x
shown-alike None = refl
shown-alike (Some x) = refl

pub zero_bits : Floats.bits_of zero_float ≡ 0
unfolding pick is_nan to_bits of_bits of_fields
zero_bits = refl

no_bits : (x : Option ℤ) → F.shown_bits (shadow_of x) ≡ 0
no_bits None = refl
no_bits (Some x) = zero_bits

lowered : (f : Figures) (b : Span) (k x y z : ℕ)
    → shadow_words (raised (figures_words f b) ++ (k ∷ x ∷ y ∷ z ∷ [])) ≡ figures_words f b ++ (k ∷ 0 ∷ 0 ∷ 0 ∷ [])
lowered (Exponential c) b k x y z = refl
lowered (Explicit n) b k x y z = refl

-- the words of a point's shadow are the shadow of its words
pub shadow-words : (p : Point) (b : Span) → shadow_words (words_of p b) ≡ F.words_of (shadow_point p) b
shadow-words p b =
    lowered p.figures b _ _ _ _
    ∙ (λ i. figures_words p.figures b
    ++ ((bit p.extremes + 2 * bit (sym (shown-alike p.min) i)) ∷ sym (no_bits p.min) i ∷ sym (no_bits p.max) i ∷ sym zero_bits i ∷ []))

-- in a list of words, each one's shadow
pub get_or-shadow : (ws : List (List ℕ)) (i : ℕ) → i < length ws → get_or (map shadow_words ws) i [] ≡ shadow_words (get_or ws i [])
get_or-shadow [] i h = absurd (omega arith)
get_or-shadow (w ∷ ws) zero h = refl
get_or-shadow (w ∷ ws) (suc i) h = get_or-shadow ws i (omega arith)
