-- A point is read from its words as it was, bit for bit, and words are accepted only if they are a point's. Assumes nothing.
use Prim.Native.Nat.{ℕ, ◌+◌, ◌*◌, ◌%◌, ◌<◌}
use mathlib.Core.Path.{◌≡◌, refl, sym, ap, ap₂, ◌∙◌}
use mathlib.Core.Bool.{Bool, true, false}
use mathlib.Core.List.{List, [], ◌∷◌, ◌++◌}
use native.Mathlib.Omega.{arith}
use borrow.Author.Tests.{eq-eqb}
use lib.Dec.{T, leb, eqb}
use lib.ListN.{get_or}
use lib.Ieee.{Float, nan, inf, fin, binary64, of_bits, of_fields, fits, is_nan}
use lib.Ieee.Bits.{of_bits-to_bits}
use Rattle.laws.specs.Counting.{bit}
use Rattle.laws.specs.Pick.{pick}
use Rattle.laws.proofs.Cases.{true-not-false}
use Rattle.sets.proofs.Alls.{allb-yes}
use Rattle.floats.specs.Answers.{is_shown, bits_of}
use Rattle.std.specs.Prelude.{Option, Some, None}
use Rattle.point.specs.declared.Point.{Point}
use Rattle.point.specs.declared.Figures.{Figures}
use Rattle.point.specs.declared.Figures.TheVariants.{Exponential, Explicit}
use Rattle.listing.specs.Words.{shown_bits, figures_words, words_of, figures_in, bounds_in, extreme_in, point_in, is_point}
use Rattle.listing.specs.declared.Span.{Span}

-- ---- what a point in code is

-- level and starts are u32; an exponential point has no bounds
abbrev pub Narrow : Figures → Span → Type 0
Narrow (Exponential c) b =
    (c.level < 4294967296) × (c.pos.start < 4294967296) × (c.neg.start < 4294967296) × (b ≡ record { start = 0; len = 0 })
Narrow (Explicit n) b = Unit

abbrev pub Fitting : Option Float → Type 0
Fitting None = Unit
Fitting (Some x) = fits binary64 x ≡ true

-- and extremes are both shown or neither
pub record Held (p : Point) (b : Span) : Type 0 where
  pub figures : Narrow p.figures b
  pub both : is_shown p.max ≡ is_shown p.min
  pub min : Fitting p.min
  pub max : Fitting p.max
  pub sum : fits binary64 p.sum ≡ true

-- ---- an f64

to-t : (b : Bool) → b ≡ true → T b
to-t true p = tt
to-t false p = true-not-false (sym p)

pub bits_back : (x : Float) → fits binary64 x ≡ true → of_bits binary64 (bits_of x) ≡ x
unfolding is_nan of_bits of_fields pick
bits_back nan h = refl
bits_back (inf s) h = of_bits-to_bits binary64 (inf s) (to-t _ h)
bits_back (fin s m e) h = of_bits-to_bits binary64 (fin s m e) (to-t _ h)

extreme-back : (x : Option Float) (s : Bool) → is_shown x ≡ s → Fitting x → extreme_in s (shown_bits x) ≡ x
unfolding extreme_in pick
extreme-back None true e h = true-not-false (sym e)
extreme-back None false e h = refl
extreme-back (Some x) true e h = ap Some (bits_back x h)
extreme-back (Some x) false e h = true-not-false e

-- ---- the flags

switch_back : (a b : Bool) → eqb ((bit a + 2 * bit b) % 2) 1 ≡ a
switch_back true true = refl
switch_back true false = refl
switch_back false true = refl
switch_back false false = refl

shown-back : (a b : Bool) → leb 2 (bit a + 2 * bit b) ≡ b
shown-back true true = refl
shown-back true false = refl
shown-back false true = refl
shown-back false false = refl

-- ---- the words one by one

module _ (b : Span) (x y z u : ℕ) where
  abbrev row : Figures → List ℕ
  row f = figures_words f b ++ (x ∷ y ∷ z ∷ u ∷ [])

  word_8 : (f : Figures) → get_or (row f) 8 0 ≡ x
  word_8 (Exponential c) = refl
  word_8 (Explicit n) = refl

  word_9 : (f : Figures) → get_or (row f) 9 0 ≡ y
  word_9 (Exponential c) = refl
  word_9 (Explicit n) = refl

  word_10 : (f : Figures) → get_or (row f) 10 0 ≡ z
  word_10 (Exponential c) = refl
  word_10 (Explicit n) = refl

  word_11 : (f : Figures) → get_or (row f) 11 0 ≡ u
  word_11 (Exponential c) = refl
  word_11 (Explicit n) = refl

  figures-back : (f : Figures) → Narrow f b → figures_in (row f) ≡ f
  unfolding figures_in pick
  figures-back (Exponential c) h =
      let l : c.level % 4294967296 ≡ c.level = omega (arith, h.0) in
      let p : c.pos.start % 4294967296 ≡ c.pos.start = omega (arith, h.1) in
      let n : c.neg.start % 4294967296 ≡ c.neg.start = omega (arith, h.2) in
      λ i.
      Exponential (record {
        count = c.count;
        zeros = c.zeros;
        level = l i;
        pos = record { start = p i; len = c.pos.len };
        neg = record { start = n i; len = c.neg.len };
      })
  figures-back (Explicit n) h = refl

  bounds-back : (f : Figures) → Narrow f b → bounds_in (row f) ≡ b
  unfolding bounds_in pick
  bounds-back (Exponential c) h = sym h.3
  bounds-back (Explicit n) h = refl

-- ---- a point

module _ (p : Point) (b : Span) (h : Held p b) where
  abbrev flags : ℕ
  flags = bit p.extremes + 2 * bit (is_shown p.min)

  abbrev w : List ℕ
  w = words_of p b

  extreme-of : (x : Option Float) (k n : ℕ) → k ≡ bit p.extremes + 2 * bit (is_shown p.min) → n ≡ shown_bits x → is_shown x ≡ is_shown p.min → Fitting x
      → extreme_in (leb 2 k) n ≡ x
  extreme-of x k n e f s t =
      ap₂ (λ (i j : ℕ). extreme_in (leb 2 i) j) e f
      ∙ ap (λ (o : Bool). extreme_in o (shown_bits x)) (shown-back p.extremes (is_shown p.min))
      ∙ extreme-back x (is_shown p.min) s t

  pub point-back : point_in (words_of p b) ≡ p
  unfolding point_in
  point-back =
      let f = figures-back b flags (shown_bits p.min) (shown_bits p.max) (bits_of p.sum) p.figures h.figures in
      let k = word_8 b flags (shown_bits p.min) (shown_bits p.max) (bits_of p.sum) p.figures in
      let x = ap (λ (n : ℕ). eqb (n % 2) 1) k ∙ switch_back p.extremes (is_shown p.min) in
      let l = extreme-of p.min (get_or w 8 0) (get_or w 9 0) k (word_9 b flags (shown_bits p.min) (shown_bits p.max) (bits_of p.sum) p.figures) refl h.min in
      let g = extreme-of p.max (get_or w 8 0) (get_or w 10 0) k (word_10 b flags (shown_bits p.min) (shown_bits p.max) (bits_of p.sum) p.figures) h.both h.max in
      let s = ap (of_bits binary64) (word_11 b flags (shown_bits p.min) (shown_bits p.max) (bits_of p.sum) p.figures) ∙ bits_back p.sum h.sum in
      λ i. record { figures = f i; extremes = x i; min = l i; max = g i; sum = s i }

  pub span-back : bounds_in (words_of p b) ≡ b
  span-back = bounds-back b flags (shown_bits p.min) (shown_bits p.max) (bits_of p.sum) p.figures h.figures

  -- its words are accepted
  pub point-is : is_point (words_of p b) ≡ true
  unfolding is_point
  point-is =
      let e : words_of (point_in w) (bounds_in w) ≡ w = ap₂ words_of point-back span-back in
      allb-yes (λ i. eqb (get_or (words_of (point_in w) (bounds_in w)) i 0) (get_or w i 0)) 12 (λ i l. eq-eqb _ _ (ap (λ (t : List ℕ). get_or t i 0) e))
