-- A point of i64 values is what its shadow's words tell, and its own: which words are one's, what is found of them, and what the f64 reader finds
-- of the shadow's. Assumes nothing.
use Prim.Native.Nat.{ℕ, suc, ◌-◌, ◌^◌, ◌≤◌, ◌<◌}
use mathlib.Core.Path.{◌≡◌, refl, sym, ap, subst, ◌∙◌}
use mathlib.Core.Bool.{Bool, true, false, ◌&&◌}
use mathlib.Core.List.{List, [], ◌∷◌, ◌++◌}
use native.Mathlib.Omega.{arith}
use borrow.Author.Tests.{leb-true, le-leb, eq-eqb, eqb-true}
use lib.Dec.{leb, ltb, eqb}
use lib.IntN.{pos, negsuc}
use lib.ListN.{get_or}
use Rattle.laws.specs.Pick.{pick}
use Rattle.laws.proofs.Bools.{pick_true, pick-false, and_left, and_right, and_intro}
use Rattle.sets.proofs.Alls.{allb-none, allb-more, allb-at, allb-yes}
use Rattle.integers.specs.Answers.{bits_of, of_bits}
use Rattle.points.specs.Shadow.{shadow_of}
use Rattle.point.specs.declared.Point as P
use Rattle.point.specs.declared.Figures.{Figures}
use Rattle.point.specs.declared.Figures.TheVariants.{Exponential, Explicit}
use Rattle.whole_point.specs.Handing.{shadow_point}
use Rattle.listing.specs.Words as F
use Rattle.listing.specs.Words.{figures_words}
use Rattle.listing.specs.declared.Span.{Span}
use Rattle.whole_listing.specs.Words.{shown_bits, raised, words_of, shadow_words, extreme_in, bounds_in, point_in, is_point}
use Rattle.whole_listing.specs.Inner.{blank, own_words}
use Rattle.whole_listing.proofs.Shadow.{shadow-words}
use Rattle.whole_listing.proofs.Back.{word_9, word_10, word_11}

-- ---- bits that are read and written again

pub bits-of-of : (b : ℕ) → b < 2 ^ 64 → bits_of (of_bits b) ≡ b
unfolding of_bits
bits-of-of b h = go (ltb b (2 ^ 63)) refl
  where
    again : (b : ℕ) → b < 2 ^ 64 → 2 ^ 64 - suc (2 ^ 64 - suc b) ≡ b
    again b h = omega (arith, h)

    go : (t : Bool) → ltb b (2 ^ 63) ≡ t → bits_of (pick (ltb b (2 ^ 63)) (pos b) (negsuc (2 ^ 64 - suc b))) ≡ b
    go true e = ap bits_of (pick_true (ltb b (2 ^ 63)) (pos b) (negsuc (2 ^ 64 - suc b)) e)
    go false e = ap bits_of (pick-false (ltb b (2 ^ 63)) (pos b) (negsuc (2 ^ 64 - suc b)) e) ∙ again b h

-- an extreme's word, written again, is the same where it is blank or shown, and then only
extreme-again : (s : Bool) (n : ℕ) → n < 2 ^ 64 → blank s n ≡ true → shown_bits (extreme_in s n) ≡ n
unfolding extreme_in pick
extreme-again true n h t = bits-of-of n h
extreme-again false n h t = sym (eqb-true n 0 t)

extreme-blank : (s : Bool) (n : ℕ) → shown_bits (extreme_in s n) ≡ n → blank s n ≡ true
unfolding extreme_in pick
extreme-blank true n e = refl
extreme-blank false n e = eq-eqb n 0 (sym e)

-- ---- the shadow of the point that words read as

extreme-shadow : (s : Bool) (n : ℕ) → F.extreme_in s 0 ≡ shadow_of (extreme_in s n)
unfolding extreme_in F.extreme_in pick
extreme-shadow true n = refl
extreme-shadow false n = refl

pub shadow_in : (w : List ℕ) → F.point_in (shadow_words w) ≡ shadow_point (point_in w)
unfolding point_in F.point_in
shadow_in w =
    let s = leb 2 (get_or w 8 0) in
    λ i.
    record {
      figures = (point_in w).figures;
      extremes = (point_in w).extremes;
      min = extreme-shadow s (get_or w 9 0) i;
      max = extreme-shadow s (get_or w 10 0) i;
      sum = (shadow_point (point_in w)).sum;
    }

kind-most : (f : Figures) (b : Span) (l : List ℕ) → 2 ≤ get_or (raised (figures_words f b) ++ l) 0 0
kind-most (Exponential c) b l = omega arith
kind-most (Explicit n) b l = omega arith

-- ---- which words are a point's

-- the numbers are words of 64 bits
abbrev pub Wide : List ℕ → Type 0
Wide w = (get_or w 9 0 < 2 ^ 64) × (get_or w 10 0 < 2 ^ 64) × (get_or w 11 0 < 2 ^ 64)

module _ (w : List ℕ) where
  -- written again
  abbrev again : List ℕ
  again = words_of (point_in w) (bounds_in w)

  shadow-again : F.words_of (F.point_in (shadow_words w)) (F.bounds_in (shadow_words w)) ≡ shadow_words again
  unfolding bounds_in
  shadow-again = ap (λ (q : P.Point). F.words_of q (F.bounds_in (shadow_words w))) (shadow_in w) ∙ sym (shadow-words (point_in w) (bounds_in w))

  module _ (h : is_point w ≡ true) where
    same_at : (i : ℕ) → i < 12 → get_or again i 0 ≡ get_or w i 0
    unfolding is_point
    same_at i l = eqb-true (get_or again i 0) (get_or w i 0) (allb-at (λ j. eqb (get_or again j 0) (get_or w j 0)) 12 h i l)

    same-shadow : shadow_words again ≡ shadow_words w
    same-shadow =
        λ j.
        (same_at 0 (omega arith) j - 2) ∷ same_at 1 (omega arith) j ∷ same_at 2 (omega arith) j ∷ same_at 3 (omega arith) j ∷ same_at 4 (omega arith) j
        ∷ same_at 5 (omega arith) j ∷ same_at 6 (omega arith) j ∷ same_at 7 (omega arith) j ∷ same_at 8 (omega arith) j ∷ 0 ∷ 0 ∷ 0 ∷ []

    pub shadow-is : F.is_point (shadow_words w) ≡ true
    unfolding F.is_point
    shadow-is =
        let v = shadow_words w in
        allb-yes (λ i. eqb (get_or (F.words_of (F.point_in v) (F.bounds_in v)) i 0) (get_or v i 0)) 12
        (λ i l. eq-eqb _ _ (ap (λ (t : List ℕ). get_or t i 0) (shadow-again ∙ same-shadow)))

    -- and the words are its own
    word_low : shown_bits (point_in w).min ≡ get_or w 9 0
    word_low = sym (word_9 (bounds_in w) _ _ _ _ (point_in w).figures) ∙ same_at 9 (omega arith)

    word-high : shown_bits (point_in w).max ≡ get_or w 10 0
    word-high = sym (word_10 (bounds_in w) _ _ _ _ (point_in w).figures) ∙ same_at 10 (omega arith)

    pub own_is : own_words w ≡ true
    unfolding own_words point_in
    own_is =
        let s = leb 2 (get_or w 8 0) in
        and_intro (leb 2 (get_or w 0 0)) _ (le-leb 2 (get_or w 0 0) (subst (λ (k : ℕ). 2 ≤ k) (same_at 0 (omega arith)) (kind-most (point_in w).figures (bounds_in w) _)))
        (and_intro (blank s (get_or w 9 0)) (blank s (get_or w 10 0)) (extreme-blank s (get_or w 9 0) word_low) (extreme-blank s (get_or w 10 0) word-high))

  pub kind-own : own_words w ≡ true → 2 ≤ get_or w 0 0
  unfolding own_words
  kind-own o = leb-true 2 (get_or w 0 0) (and_left (leb 2 (get_or w 0 0)) _ o)

  -- own words whose shadow's are an f64 point's, in code
  module _ (n : Wide w) (o : own_words w ≡ true) (h : F.is_point (shadow_words w) ≡ true) where
    blanks : (blank (leb 2 (get_or w 8 0)) (get_or w 9 0) ≡ true) × (blank (leb 2 (get_or w 8 0)) (get_or w 10 0) ≡ true)
    unfolding own_words
    blanks =
        let s = leb 2 (get_or w 8 0) in
        let e = and_right (leb 2 (get_or w 0 0)) (blank s (get_or w 9 0) && blank s (get_or w 10 0)) o in
        (and_left (blank s (get_or w 9 0)) (blank s (get_or w 10 0)) e, and_right (blank s (get_or w 9 0)) (blank s (get_or w 10 0)) e)

    shadow-at : (i : ℕ) → i < 12 → get_or (shadow_words again) i 0 ≡ get_or (shadow_words w) i 0
    unfolding F.is_point
    shadow-at i l =
        let v = shadow_words w in
        let t = F.words_of (F.point_in v) (F.bounds_in v) in
        sym (ap (λ (x : List ℕ). get_or x i 0) shadow-again) ∙ eqb-true (get_or t i 0) (get_or v i 0) (allb-at (λ j. eqb (get_or t j 0) (get_or v j 0)) 12 h i l)

    kind_at : get_or again 0 0 ≡ get_or w 0 0
    kind_at = go (get_or again 0 0) (get_or w 0 0) (kind-most (point_in w).figures (bounds_in w) _) (kind-own o) (shadow-at 0 (omega arith))
      where
        go : (a b : ℕ) → 2 ≤ a → 2 ≤ b → a - 2 ≡ b - 2 → a ≡ b
        go a b p q e = omega arith

    low-at : get_or again 9 0 ≡ get_or w 9 0
    unfolding point_in
    low-at = word_9 (bounds_in w) _ _ _ _ (point_in w).figures ∙ extreme-again (leb 2 (get_or w 8 0)) (get_or w 9 0) n.0 blanks.0

    high-at : get_or again 10 0 ≡ get_or w 10 0
    unfolding point_in
    high-at = word_10 (bounds_in w) _ _ _ _ (point_in w).figures ∙ extreme-again (leb 2 (get_or w 8 0)) (get_or w 10 0) n.1 blanks.1

    sum-at : get_or again 11 0 ≡ get_or w 11 0
    unfolding point_in
    sum-at = word_11 (bounds_in w) _ _ _ _ (point_in w).figures ∙ bits-of-of (get_or w 11 0) n.2

    pub whole_is : is_point w ≡ true
    unfolding is_point
    whole_is =
        let f : ℕ → Bool = λ i. eqb (get_or again i 0) (get_or w i 0) in
        let k : (i : ℕ) → get_or again i 0 ≡ get_or w i 0 → f i ≡ true = λ i e. eq-eqb (get_or again i 0) (get_or w i 0) e in
        let z = allb-more f 0 (allb-none f) (k 0 kind_at) in
        let a = allb-more f 2 (allb-more f 1 z (k 1 (shadow-at 1 (omega arith)))) (k 2 (shadow-at 2 (omega arith))) in
        let b = allb-more f 4 (allb-more f 3 a (k 3 (shadow-at 3 (omega arith)))) (k 4 (shadow-at 4 (omega arith))) in
        let c = allb-more f 6 (allb-more f 5 b (k 5 (shadow-at 5 (omega arith)))) (k 6 (shadow-at 6 (omega arith))) in
        let d = allb-more f 8 (allb-more f 7 c (k 7 (shadow-at 7 (omega arith)))) (k 8 (shadow-at 8 (omega arith))) in
        allb-more f 11 (allb-more f 10 (allb-more f 9 d (k 9 low-at)) (k 10 high-at)) (k 11 sum-at)
