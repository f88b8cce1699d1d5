-- A point of i64 values is read from its words as it was, and its words are accepted; its figures by its shadow's. Assumes nothing.
use Prim.Native.Nat.{ℕ, ◌%◌, ◌^◌}
use mathlib.Core.Path.{◌≡◌, refl, sym, ap, ap₂, ◌∙◌}
use mathlib.Core.Bool.{Bool, true, false}
use mathlib.Core.List.{List, [], ◌∷◌, ◌++◌}
use borrow.Author.Tests.{ltb-true, eq-eqb}
use lib.Dec.{leb, eqb}
use lib.IntN.{ℤ}
use lib.ListN.{get_or}
use lib.Signed.{mag}
use Rattle.laws.specs.Pick.{pick}
use Rattle.laws.proofs.Cases.{true-not-false}
use Rattle.sets.proofs.Alls.{allb-yes}
use Rattle.floats.specs.Answers as Floats
use Rattle.integers.specs.Answers.{in_range, is_shown, bits_of, of_bits}
use Rattle.std.specs.Prelude.{Option, Some, None}
use Rattle.integers.proofs.Range.{of-bits-of}
use Rattle.points.specs.Shadow.{shadow_of}
use Rattle.point.specs.declared.Point as P
use Rattle.point.specs.declared.Figures.{Figures}
use Rattle.point.specs.declared.Figures.TheVariants.{Exponential, Explicit}
use Rattle.whole_point.specs.Handing.{shadow_point}
use Rattle.whole_point.specs.declared.Point.{Point}
use Rattle.listing.specs.Words as F
use Rattle.listing.specs.Words.{figures_words, figures_in}
use Rattle.listing.specs.declared.Span.{Span}
use Rattle.listing.proofs.Back as L
use Rattle.listing.proofs.Back.{Narrow}
use Rattle.collecting.proofs.Fits.{literal-fits}
use Rattle.whole_listing.specs.Words.{shown_bits, raised, words_of, shadow_words, bounds_in, extreme_in, point_in, is_point}
use Rattle.whole_listing.proofs.Shadow.{shown-alike, shadow-words}

-- ---- what a point in code is

abbrev pub Ranged : Option ℤ → Type 0
Ranged None = Unit
Ranged (Some x) = in_range x ≡ true

-- level and starts are u32, an exponential point has no bounds, extremes are both shown or neither, and the numbers are i64s
pub record Held (p : Point) (b : Span) : Type 0 where
  pub figures : Narrow p.figures b
  pub both : is_shown p.max ≡ is_shown p.min
  pub min : Ranged p.min
  pub max : Ranged p.max
  pub sum : in_range p.sum ≡ true

-- ---- its shadow is held as well

shadow-fits : (x : Option ℤ) → L.Fitting (shadow_of x)
shadow-fits None = tt
shadow-fits (Some x) = literal-fits 0

pub shadow-held : (p : Point) (b : Span) → Held p b → L.Held (shadow_point p) b
shadow-held p b h =
    record {
      figures = h.figures;
      both = shown-alike p.max ∙ h.both ∙ sym (shown-alike p.min);
      min = shadow-fits p.min;
      max = shadow-fits p.max;
      sum = literal-fits 0;
    }

-- ---- the numbers

number-back : (z : ℤ) → in_range z ≡ true → of_bits (bits_of z) ≡ z
number-back z h = of-bits-of z (ltb-true (mag z) (2 ^ 63) h)

extreme-back : (x : Option ℤ) (s : Bool) → is_shown x ≡ s → Ranged x → extreme_in s (shown_bits x) ≡ x
unfolding extreme_in pick
extreme-back None true e h = true-not-false (sym e)
extreme-back None false e h = refl
extreme-back (Some x) true e h = ap Some (number-back x h)
extreme-back (Some x) false e h = true-not-false e

-- an extreme is shown where the flags say so
flagged : (s : Bool) (n : ℕ) → Floats.is_shown (F.extreme_in s n) ≡ s
unfolding F.extreme_in pick
flagged true n = refl
flagged false n = refl

-- the words of the numbers
module _ (b : Span) (k x y z : ℕ) where
  abbrev row : Figures → List ℕ
  row f = raised (figures_words f b) ++ (k ∷ x ∷ y ∷ z ∷ [])

  pub word_9 : (f : Figures) → get_or (row f) 9 0 ≡ x
  word_9 (Exponential c) = refl
  word_9 (Explicit n) = refl

  pub word_10 : (f : Figures) → get_or (row f) 10 0 ≡ y
  word_10 (Exponential c) = refl
  word_10 (Explicit n) = refl

  pub word_11 : (f : Figures) → get_or (row f) 11 0 ≡ z
  word_11 (Exponential c) = refl
  word_11 (Explicit n) = refl

-- ---- a point

module _ (p : Point) (b : Span) (h : Held p b) where
  abbrev w : List ℕ
  w = words_of p b

  shadow-back : F.point_in (shadow_words w) ≡ shadow_point p
  shadow-back = ap F.point_in (shadow-words p b) ∙ L.point-back (shadow_point p) b (shadow-held p b h)

  figures-back : figures_in (shadow_words w) ≡ p.figures
  unfolding F.point_in
  figures-back = ap (λ (q : P.Point). q.figures) shadow-back

  switch_back : eqb (get_or w 8 0 % 2) 1 ≡ p.extremes
  unfolding F.point_in
  switch_back = ap (λ (q : P.Point). q.extremes) shadow-back

  shown-back : leb 2 (get_or w 8 0) ≡ is_shown p.min
  unfolding F.point_in
  shown-back = sym (flagged (leb 2 (get_or w 8 0)) 0) ∙ ap (λ (q : P.Point). Floats.is_shown q.min) shadow-back ∙ shown-alike p.min

  extreme-of : (x : Option ℤ) (n : ℕ) → n ≡ shown_bits x → is_shown x ≡ is_shown p.min → Ranged x → extreme_in (leb 2 (get_or w 8 0)) n ≡ x
  extreme-of x n e s t = ap₂ extreme_in shown-back e ∙ extreme-back x (is_shown p.min) s t

  pub point-back : point_in (words_of p b) ≡ p
  unfolding point_in
  point-back =
      let l = extreme-of p.min (get_or w 9 0) (word_9 b _ _ _ _ p.figures) refl h.min in
      let g = extreme-of p.max (get_or w 10 0) (word_10 b _ _ _ _ p.figures) h.both h.max in
      let s = ap of_bits (word_11 b _ _ _ _ p.figures) ∙ number-back p.sum h.sum in
      λ i. record { figures = figures-back i; extremes = switch_back i; min = l i; max = g i; sum = s i }

  pub span-back : bounds_in (words_of p b) ≡ b
  unfolding bounds_in
  span-back = ap F.bounds_in (shadow-words p b) ∙ L.span-back (shadow_point p) b (shadow-held p b h)

  -- its words are accepted
  pub point-is : is_point (words_of p b) ≡ true
  unfolding is_point
  point-is =
      let e : words_of (point_in w) (bounds_in w) ≡ w = ap₂ words_of point-back span-back in
      allb-yes (λ i. eqb (get_or (words_of (point_in w) (bounds_in w)) i 0) (get_or w i 0)) 12 (λ i l. eq-eqb _ _ (ap (λ (t : List ℕ). get_or t i 0) e))
